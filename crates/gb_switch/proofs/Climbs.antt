-- A climb is what the table of the supervisory controller says of its request.
use Rattle.std.proofs.Common.{◌≡◌, ◌<◌, ◌≤◌, ℕ, Bool, true, false, cond, ltb, leb, ◌||◌}
use Rattle.std.proofs.Common.{Option, Some, None, Result, Ok, Err, option_map, is_some, List, []}
use Rattle.std.proofs.Common.{refl, sym, ap, ◌∙◌, ◌⊎◌, ⊎_elim, arith, subst}
use Rattle.std.proofs.lemmas.Bool.{le-leb, le-ltb, lt-leb, true≢false, false≢true}
use Rattle.gb_machine.specs.Host.{is_device}
use Rattle.gb_machine.specs.Ports.{device_of, is_elsewhere, is_powered, level_in, level_of, raised}
use Rattle.gb_machine.specs.Ports.{with_device}
use Rattle.gb_machine.specs.Serving.{invalid, nonexistent, success}
use Rattle.gb_machine.specs.State as machine
use Rattle.gb_machine.specs.SvcTable.{SvcServed, climbs, device_given, is_no_device, is_route}
use Rattle.gb_switch.proofs.Ladders.{changed, device_is, level_is}
use Rattle.gb_switch.proofs.Others.{is_found, is_free}
use Rattle.gb_switch.specs.Climbing.{Follows, HasOther, IsBelow, Rises, RisesAs, served_by, told}
use Rattle.gb_switch.specs.Levels.{PutsAt, level_number, plugged_at, port_for, raised_to}
use Rattle.gb_switch.specs.Stands.{Stands}
use Rattle.gb_switch.specs.declared.ladder.Ladder.{Ladder}
use Rattle.gb_switch.specs.declared.port.Level.{Level}
use Rattle.gb_switch.specs.declared.port.Level.TheVariants as level
use Rattle.gb_switch.specs.declared.port.Port.{Port}
use Rattle.gb_switch.specs.declared.rung.NotReady.{NotReady}
use Rattle.gb_switch.specs.declared.rung.NotReady.TheVariants as not_ready
use Rattle.gb_switch.specs.declared.rung.Rung.{Rung}

-- an interface of the machine with at least a level
abbrev pub at_least : ℕ → machine.Port → machine.Port
at_least level p = cond (ltb p.level level) (record p { level = level }) p

at_least-intf : (level : ℕ) (p : machine.Port) → (at_least level p).intf ≡ p.intf
at_least-intf level p = by (ltb p.level level)
  where
    by : (b : Bool) → (cond b (record p { level = level }) p).intf ≡ p.intf
    by true = refl
    by false = refl

at_least-for : (i : ℕ) (to : Level) (p : Port)
    → port_for i (raised_to to p) ≡ at_least (level_number to) (port_for i p)
at_least-for i to p = by (ltb (level_number p.level) (level_number to))
  where
    by : (b : Bool)
        → port_for i (cond b (record p { level = to }) p)
        ≡ cond b (record (port_for i p) { level = level_number to }) (port_for i p)
    by true = refl
    by false = refl

-- an interface has risen
pub risen : (x y : Ladder) (i : ℕ) (from to : Level) (ports : List machine.Port)
    → Stands x ports → Rises x y i from to → Stands y (raised i (level_number to) ports)
risen x y i from to ports s r =
    changed x y i r.port (raised_to to r.port) (at_least (level_number to)) ports s
    (at_least-intf (level_number to)) r.there r.put (at_least-for i to r.port)

-- what comes before is done, or it isn't
pub climbed : (y : Ladder) (ready : Bool) (i level : ℕ) (payload : List ℕ)
    (ports : List machine.Port)
    → ready ≡ true → Stands y (raised i level ports)
    → Follows y (climbs ready i level payload ports) (SvcServed.Answered success payload)
climbed y true i level payload ports e s = record { answer = refl; stands = s }
climbed y false i level payload ports e s = absurd (false≢true e)

pub not_climbed : (y : Ladder) (ready : Bool) (i level : ℕ) (payload : List ℕ)
    (ports : List machine.Port)
    → ready ≡ false → Stands y ports
    → Follows y (climbs ready i level payload ports) (SvcServed.Answered nonexistent [])
not_climbed y true i level payload ports e s = absurd (true≢false e)
not_climbed y false i level payload ports e s = record { answer = refl; stands = s }

-- the level of an interface that is below a level
pub below : (x : Ladder) (i n : ℕ) (ports : List machine.Port)
    → 0 < n → Stands x ports → IsBelow n (plugged_at i x) → level_of i ports < n
below x i n ports positive s h =
    subst (λ m. m < n) (sym (ap level_in (s.each i))) (by (plugged_at i x) h)
  where
    by : (o : Option Port) → IsBelow n o → level_in (option_map (port_for i) o) < n
    by None h = positive
    by (Some p) h = h

-- nothing is plugged where no level is reached
unpowered_at : (x : Ladder) (i : ℕ) (ports : List machine.Port)
    → Stands x ports → IsBelow 0 (plugged_at i x) → is_powered i ports ≡ false
unpowered_at x i ports s h = ap is_some (s.each i) ∙ by (plugged_at i x) h
  where
    by : (o : Option Port) → IsBelow 0 o → is_some (option_map (port_for i) o) ≡ false
    by None h = refl
    by (Some p) h = absurd (omega (arith, h))

-- the rungs above the first
pub level_rung : (x y : Ladder) (i : ℕ) (r : Rung) (from to : Level) (ports : List machine.Port)
    (result : Result (Unit {0}) NotReady)
    → 0 < level_number from → Stands x ports → RisesAs x y i from to result
    → Follows y
    (climbs (leb (level_number from) (level_of i ports)) i (level_number to) (told r) ports)
    (served_by r result)
level_rung x y i r from to ports (Ok u) positive s h =
    let enough : level_number from ≤ level_of i ports =
    subst (λ m. level_number from ≤ m) (sym (level_is x i h.port ports s h.there)) h.enough in
    climbed y (leb (level_number from) (level_of i ports)) i (level_number to) (told r) ports
    (le-leb (level_number from) (level_of i ports) enough) (risen x y i from to ports s h)
level_rung x y i r from to ports (Err not_ready.Below) positive s h =
    not_climbed y (leb (level_number from) (level_of i ports)) i (level_number to) (told r) ports
    (lt-leb (level_number from) (level_of i ports)
    (below x i (level_number from) ports positive s h.0)) (subst (λ z. Stands z ports) (sym h.1) s)
level_rung x y i r from to ports (Err not_ready.Taken) positive s h = absurd h

-- the first rung
pub power_rung : (x y : Ladder) (i : ℕ) (r : Rung) (to : Level) (ports : List machine.Port)
    (result : Result (Unit {0}) NotReady)
    → Stands x ports → RisesAs x y i level.Off to result
    → Follows y (climbs (is_powered i ports) i (level_number to) (told r) ports)
    (served_by r result)
power_rung x y i r to ports (Ok u) s h =
    let there : is_powered i ports ≡ true =
    ap is_some (s.each i ∙ ap (option_map (port_for i)) h.there) in
    climbed y (is_powered i ports) i (level_number to) (told r) ports there
    (risen x y i level.Off to ports s h)
power_rung x y i r to ports (Err not_ready.Below) s h =
    not_climbed y (is_powered i ports) i (level_number to) (told r) ports
    (unpowered_at x i ports s h.0) (subst (λ z. Stands z ports) (sym h.1) s)
power_rung x y i r to ports (Err not_ready.Taken) s h = absurd h

-- whether another interface has the device id
pub elsewhere_is : (x : Ladder) (i d : ℕ) (found : Bool) (ports : List machine.Port)
    → Stands x ports → HasOther x i d found → is_elsewhere i d ports ≡ found
elsewhere_is x i d true ports s h =
    is_found i h.0 d ports h.1 (ap (is_device d) (device_is x h.0 ports s) ∙ h.2)
elsewhere_is x i d false ports s h =
    is_free i d ports s.once (λ j other. ap (is_device d) (device_is x j ports s) ∙ h j other)

-- a device id that can't be had
pub refused : (x : Ladder) (i d : ℕ) (p : Port) (ports : List machine.Port)
    → Stands x ports → plugged_at i x ≡ Some p → 4 ≤ level_number p.level
    → is_no_device i d ports ≡ true
    → Follows x (device_given i d ports) (SvcServed.Answered invalid [])
refused x i d p ports s there enough none =
    let active : 4 ≤ level_of i ports =
    subst (λ m. 4 ≤ m) (sym (level_is x i p ports s there)) enough in
    rw (le-ltb (level_of i ports) 4 active, none) record { answer = refl; stands = s }

-- a device id is given
pub given : (x y : Ladder) (i d : ℕ) (p : Port) (ports : List machine.Port)
    → Stands x ports → plugged_at i x ≡ Some p → 4 ≤ level_number p.level
    → is_no_device i d ports ≡ false
    → PutsAt x y i (Some (record { level = level.Named; device = Some d }))
    → Follows y (device_given i d ports) (SvcServed.Answered success [])
given x y i d p ports s there enough can put =
    let active : 4 ≤ level_of i ports =
    subst (λ m. 4 ≤ m) (sym (level_is x i p ports s there)) enough in
    let stands : Stands y (with_device i d ports) =
    changed x y i p (record { level = level.Named; device = Some d })
    (λ (q : machine.Port). record q { level = 5; device = Some d }) ports s (λ q. refl) there put
    refl in
    rw (le-ltb (level_of i ports) 4 active, can) record { answer = refl; stands = stands }

-- the four reasons against a device id
pub any_of_four : (a b c e : Bool)
    → (a ≡ true) ⊎ ((b ≡ true) ⊎ ((c ≡ true) ⊎ (e ≡ true))) → (a || b || c || e) ≡ true
any_of_four true b c e h = refl
any_of_four false true c e h = refl
any_of_four false false true e h = refl
any_of_four false false false true h = refl
any_of_four false false false false h =
    absurd (⊎_elim false≢true (⊎_elim false≢true (⊎_elim false≢true false≢true)) h)

pub none_of_four : (a b c e : Bool)
    → a ≡ false → b ≡ false → c ≡ false → e ≡ false → (a || b || c || e) ≡ false
none_of_four a b c e h1 h2 h3 h4 = rw (h1, h2, h3, h4) refl

pub a_route : (i d : ℕ) (ports : List machine.Port)
    → 5 ≤ level_of i ports → is_device d (device_of i ports) ≡ true → is_route 1 1 i d ports ≡ true
a_route i d ports high has = rw (le-ltb (level_of i ports) 5 high, has) refl
