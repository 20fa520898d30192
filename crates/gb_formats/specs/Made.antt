-- The script that is made from a number, its seed.
use Rattle.std.specs.Prelude.{ℕ, zero, suc, ◌+◌, ◌-◌, ◌*◌, ◌/◌, ◌%◌, ◌==◌, nat_le, if◌then◌else◌}
use Rattle.std.specs.Prelude.{[], ◌∷◌, ◌++◌, codes}
use Rattle.std.specs.Fmt.{decimal}
use Rattle.gb_base.specs.declared.bridge.BridgeAsk.TheVariants as ask
use Rattle.gb_base.specs.declared.bridge.I2cOp.TheVariants as i2c
use Rattle.gb_base.specs.declared.end.End.TheVariants as end
use Rattle.gb_base.specs.declared.event.Event.{Event}
use Rattle.gb_base.specs.declared.event.Event.TheVariants as event
use Rattle.gb_base.specs.declared.event.Kind.TheVariants as kind
use Rattle.gb_base.specs.declared.name.Name.{Name}
use Rattle.gb_formats.specs.I2cDevice.{i2c_address}

-- x(0) is the seed, and x(k) = (x(k-1) * 1103515245 + 12345) mod 2147483648
unfoldable pub made_number : ℕ → ℕ → ℕ
made_number seed zero = seed
made_number seed (suc k) = (made_number seed k * 1103515245 + 12345) % 2147483648

-- y(k) = x(k) / 65536, whole part
abbrev pub made_draw : ℕ → ℕ → ℕ
made_draw seed k = made_number seed k / 65536

-- the row of the table for line k
abbrev pub made_row : ℕ → ℕ → ℕ
made_row seed k = made_draw seed k % 8

-- the interface of line k
abbrev pub made_intf : ℕ → ℕ → ℕ
made_intf seed k = 2 + made_draw seed k / 8 % 4

-- the value of line k
abbrev pub made_value : ℕ → ℕ → ℕ
made_value seed k = made_draw seed k / 32 % 8

-- the greatest number from 1 to k whose row names a request, or 0 where there is none
unfoldable pub last_named : ℕ → ℕ → ℕ
last_named seed zero = 0
last_named seed (suc k) =
    let earlier = last_named seed k in if nat_le (made_row seed (suc k)) 3 then suc k else earlier

-- `@nk`
abbrev pub made_name : ℕ → Name
made_name k = record { who = 0; word = codes "n" ++ decimal k }

-- Line k of the table by its row, interface and value: `activate`, a transfer, `send`, `settle`,
-- `cancel` of the last name, `tick` or `deliver`.
abbrev pub made_by : ℕ → ℕ → ℕ → ℕ → ℕ → Event
made_by k named row i v =
    if nat_le row 1 then event.Bridge (made_name k) i 1 (ask.Gpio 0x03 v 0)
    else if row == 2
    then event.Bridge (made_name k) i 2
    (ask.I2cTransfer (i2c.Put i2c_address (v ∷ []) ∷ i2c.Get i2c_address 4 ∷ []))
    else if row == 3 then event.Bridge (made_name k) i 4 (ask.UartSend (v ∷ []))
    else if row == 4 then event.Settle 5
    else if row == 5 then event.Cancel (made_name named)
    else if row == 6 then event.Tick 200
    else event.Deliver (end.Module i 1)

-- line k of the table
abbrev pub made_drawn : ℕ → ℕ → Event
made_drawn seed k =
    made_by k (last_named seed (k - 1)) (made_row seed k) (made_intf seed k) (made_value seed k)

-- how many lines the made script has
abbrev pub made_lines : ℕ
made_lines = 20024

-- The k-th event of the made script, for k from 1 to 20,024.
abbrev pub made : ℕ → ℕ → Event
made seed k =
    let drawn = made_drawn seed (k - 23) in
    if nat_le k 4 then event.Insert (k + 1) (kind.Bridge ∷ [])
    else if k == 5 then event.Boot
    else if k == 6 then event.Settle 60000
    else if nat_le k 22 then event.Connect (2 + (k - 7) / 4) (1 + (k - 7) % 4)
    else if k == 23 then event.Settle 60000
    else if nat_le k 20023 then drawn
    else event.Settle 60000
