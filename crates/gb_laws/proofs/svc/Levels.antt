-- What a step of the supervisory controller's table makes of power levels.
use Rattle.std.proofs.Common.{Bool, List, None, Option, Some, ap, arith, cond, false, refl, subst}
use Rattle.std.proofs.Common.{sym, true, ℕ, [], ◌∙◌, ◌∷◌, ◌≡◌, ◌≤◌}
use Rattle.std.proofs.lemmas.Bool.Decides.{nat_tests}
use Rattle.std.specs.Prelude.{Err, Ok, Result, nat_le, nat_lt, not, option_map, ◌+◌, ◌==◌, ◌||◌}
use Rattle.gb_formats.specs.Records.{PayloadFault, Row, read_row, row_of, unless_own}
use Rattle.gb_formats.specs.SvcRecords.{SvcAsk, read_svc_ask, read_svc_ask_of_ap, svc_asks}
use Rattle.gb_machine.specs.Ports.{device_of, is_elsewhere, is_port, is_powered, level_in, level_of}
use Rattle.gb_machine.specs.Ports.{port_of, raised, with_device, with_port}
use Rattle.gb_machine.specs.SvcTable.{SvcStep, climbs, device_given, is_no_device, is_route}
use Rattle.gb_machine.specs.SvcTable.{svc_asked, svc_read, svc_refuses, svc_step}
use Rattle.gb_machine.specs.{Host.is_device, State.Port, SvcQueues.enumerates}
use Rattle.gb_invariants.proofs.{Awaiting.not-both, Found.find-changed, Outcomes.is-same}
use Rattle.gb_invariants.proofs.{Outcomes.same-number}

-- ---- one interface

pub flip : (i j : ℕ) → (j == i) ≡ false → (i == j) ≡ false
flip i j h = grind (arith, nat_tests, h)

-- another interface stays
pub other-port : (j i : ℕ) (f : Port → Port) (ports : List Port)
    → ((p : Port) → (f p).intf ≡ p.intf) → (j == i) ≡ false
    → port_of j (with_port i f ports) ≡ port_of j ports
other-port j i f [] same other = refl
other-port j i f (p ∷ ps) same other = by (p.intf == i) refl (other-port j i f ps same other)
  where
    by : (t : Bool) → (p.intf == i) ≡ t → port_of j (with_port i f ps) ≡ port_of j ps
        → port_of j (cond t (f p ∷ ps) (p ∷ with_port i f ps)) ≡ port_of j (p ∷ ps)
    by true e rec =
        ap (λ n. cond (n == j) (Some (f p)) (port_of j ps)) (same p ∙ same-number p.intf i e)
        ∙ ap (λ t. cond t (Some (f p)) (port_of j ps)) (flip i j other)
        ∙ sym (ap (λ n. cond (n == j) (Some p) (port_of j ps)) (same-number p.intf i e)
        ∙ ap (λ t. cond t (Some p) (port_of j ps)) (flip i j other))
    by false e rec = ap (λ o. cond (p.intf == j) (Some p) o) rec

-- the interface itself changes so
pub same-port : (i : ℕ) (f : Port → Port) (ports : List Port) → ((p : Port) → (f p).intf ≡ p.intf)
    → port_of i (with_port i f ports) ≡ option_map f (port_of i ports)
same-port i f ports same = find-changed (is_port i) f ports (λ p. ap (λ n. n == i) (same p))

-- ---- what a step keeps

-- a request begins an enumeration of an interface
abbrev pub starts : ℕ → SvcAsk → Bool
starts j (SvcAsk.VsysEnable i) = i == j
starts j _ = false

-- what becomes of the level of an interface, by what is asked
pub record StepLevels (j : ℕ) (ask : SvcAsk) (before after : ℕ) : Type 0 where
  pub bound : before ≤ 6 → after ≤ 6
  pub routed : before ≡ 6 → after ≡ 6
  pub zero : before ≡ 0 → starts j ask ≡ false → after ≡ 0
  pub same : enumerates j (Ok ask) ≡ false → after ≡ before
  pub low : starts j ask ≡ true → before ≤ 1 → after ≤ 1

stays : (j : ℕ) (ask : SvcAsk) (before after : ℕ) → after ≡ before → StepLevels j ask before after
stays j ask before after e = record {
  bound = λ h. subst (λ n. n ≤ 6) (sym e) h;
  routed = λ h. e ∙ h;
  zero = λ h n. e ∙ h;
  same = λ n. e;
  low = λ s h. subst (λ n. n ≤ 1) (sym e) h;
}

abbrev lifted : ℕ → Port → Port
lifted level p = cond (nat_lt p.level level) (record p { level = level }) p

lifted-intf : (level : ℕ) (p : Port) → (lifted level p).intf ≡ p.intf
lifted-intf level p = by (nat_lt p.level level)
  where
    by : (t : Bool) → (cond t (record p { level = level }) p).intf ≡ p.intf
    by true = refl
    by false = refl

-- an interface climbs
climbed : (j i level : ℕ) (ask : SvcAsk) (ports : List Port) → level ≤ 6
    → (enumerates i (Ok ask) ≡ true) → (starts i ask ≡ true → level ≡ 1)
    → (starts i ask ≡ false → 1 ≤ level_of i ports)
    → StepLevels j ask (level_of j ports) (level_of j (raised i level ports))
climbed j i level ask ports most mine first next = by (j == i) refl
  where
    at : (o : Option Port) → port_of i ports ≡ o
        → StepLevels i ask (level_in o) (level_in (option_map (lifted level) o))
    at None e = stays i ask 0 0 refl
    at (Some p) e = lift (nat_lt p.level level) refl
      where
        lift : (t : Bool) → nat_lt p.level level ≡ t
            → StepLevels i ask p.level (cond t (record p { level = level }) p).level
        lift false f = stays i ask p.level p.level refl
        lift true f = record {
          bound = λ h. most;
          routed = λ h. grind (arith, nat_tests, h, f, most);
          zero = λ h n. let low = next n in
              absurd (omega (arith, subst (λ k. 1 ≤ k) (ap level_in e) low, h));
          same = λ n. absurd (not-both (enumerates i (Ok ask)) mine n);
          low = λ s h. subst (λ n. n ≤ 1) (sym (first s)) (omega arith);
        }

    by : (t : Bool) → (j == i) ≡ t
        → StepLevels j ask (level_of j ports) (level_of j (raised i level ports))
    by false e = stays j ask (level_of j ports) (level_of j (raised i level ports))
        (ap level_in (other-port j i (lifted level) ports (lifted-intf level) e))
    by true e = subst (λ k. StepLevels k ask (level_of k ports) (level_of k (raised i level ports)))
        (sym (same-number j i e)) (subst (λ o. StepLevels i ask (level_of i ports) (level_in o))
        (sym (same-port i (lifted level) ports (lifted-intf level))) (at (port_of i ports) refl))

-- one of two steps
one-of : {j : ℕ} {ask : SvcAsk} (ports : List Port) (t : Bool) (x y : SvcStep)
    → (t ≡ true → StepLevels j ask (level_of j ports) (level_of j x.ports))
    → (t ≡ false → StepLevels j ask (level_of j ports) (level_of j y.ports))
    → StepLevels j ask (level_of j ports) (level_of j (cond t x y).ports)
one-of ports true x y h k = h refl
one-of ports false x y h k = k refl

refused : (j : ℕ) (ask : SvcAsk) (ports : List Port)
    → StepLevels j ask (level_of j ports) (level_of j ports)
refused j ask ports = stays j ask (level_of j ports) (level_of j ports) refl

climbs-levels : (j i level : ℕ) (payload : List ℕ) (ready : Bool) {ask : SvcAsk}
    (ports : List Port) → level ≤ 6 → enumerates i (Ok ask) ≡ true
    → (starts i ask ≡ true → level ≡ 1)
    → (ready ≡ true → starts i ask ≡ false → 1 ≤ level_of i ports)
    → StepLevels j ask (level_of j ports) (level_of j (climbs ready i level payload ports).ports)
climbs-levels j i level payload ready {ask} ports most mine first next =
    one-of ports ready _ (svc_refuses ports _)
    (λ e. climbed j i level ask ports most mine first (next e)) (λ e. refused j ask ports)

abbrev given_device : ℕ → Port → Port
given_device d p = record p { level = 5; device = Some d }

-- a device id is given
given-levels : (j i d : ℕ) (ports : List Port)
    → StepLevels j (SvcAsk.IntfDeviceId i d) (level_of j ports)
    (level_of j (device_given i d ports).ports)
given-levels j i d ports =
    one-of ports (nat_lt (level_of i ports) 4) (svc_refuses ports _) _
    (λ e. refused j ask ports) (λ e. one-of ports (is_no_device i d ports) (svc_refuses ports _) _
    (λ f. refused j ask ports) (λ f. by e f (j == i) refl))
  where
    ask : SvcAsk
    ask = SvcAsk.IntfDeviceId i d

    not-routed : is_no_device i d ports ≡ false → (level_of i ports == 6) ≡ false
    not-routed f = last (nat_lt d 2) (nat_lt 31 d) (is_elsewhere i d ports) f
      where
        last : (a b c : Bool) → (a || b || c || level_of i ports == 6) ≡ false
            → (level_of i ports == 6) ≡ false
        last true b c h = absurd cc
        last false true c h = absurd cc
        last false false true h = absurd cc
        last false false false h = h

    at : (o : Option Port) → nat_lt (level_in o) 4 ≡ false → (level_in o == 6) ≡ false
        → StepLevels i (SvcAsk.IntfDeviceId i d) (level_in o)
        (level_in (option_map (given_device d) o))
    at None e f = stays i (SvcAsk.IntfDeviceId i d) 0 0 refl
    at (Some p) e f = record {
      bound = λ h. omega arith;
      routed = λ h. absurd (not-both (p.level == 6) (ap (λ n. n == 6) h) f);
      zero = λ h n. absurd (not-both (nat_lt p.level 4) (ap (λ k. nat_lt k 4) h) e);
      same = λ n. absurd (not-both (i == i) (is-same i) n);
      low = λ s h. absurd cc;
    }

    by : nat_lt (level_of i ports) 4 ≡ false → is_no_device i d ports ≡ false → (t : Bool)
        → (j == i) ≡ t → StepLevels j (SvcAsk.IntfDeviceId i d) (level_of j ports)
        (level_of j (with_device i d ports))
    by e f false g = stays j (SvcAsk.IntfDeviceId i d) (level_of j ports) _
        (ap level_in (other-port j i (given_device d) ports (λ p. refl) g))
    by e f true g =
        subst (λ k. StepLevels k (SvcAsk.IntfDeviceId i d) (level_of k ports)
        (level_of k (with_device i d ports))) (sym (same-number j i g))
        (subst (λ o. StepLevels i (SvcAsk.IntfDeviceId i d) (level_of i ports) (level_in o))
        (sym (same-port i (given_device d) ports (λ p. refl)))
        (at (port_of i ports) e (not-routed f)))

routed-five : (i1 d1 i2 d2 : ℕ) (ports : List Port) → is_route i1 d1 i2 d2 ports ≡ true
    → 1 ≤ level_of i2 ports
routed-five i1 d1 i2 d2 ports h =
    by (i1 == 1) (d1 == 1) (nat_lt (level_of i2 ports) 5) refl h
  where
    by : (a b c : Bool) → nat_lt (level_of i2 ports) 5 ≡ c
        → not (not a || not b || c || not (is_device d2 (device_of i2 ports))) ≡ true
        → 1 ≤ level_of i2 ports
    by true true false e h = grind (arith, nat_tests, e)
    by false b c e h = absurd cc
    by true false c e h = absurd cc
    by true true true e h = absurd cc

at-least : (k n : ℕ) → nat_le (1 + k) n ≡ true → 1 ≤ n
at-least k n h = grind (arith, nat_tests, h)

asked-levels : (j : ℕ) (ports : List Port) (ask : SvcAsk)
    → StepLevels j ask (level_of j ports) (level_of j (svc_asked ports ask).ports)
asked-levels j ports (SvcAsk.VsysEnable i) =
    climbs-levels j i 1 _ (is_powered i ports) ports (omega arith)
    (is-same i) (λ e. refl) (λ r n. absurd (not-both (i == i) (is-same i) n))
asked-levels j ports (SvcAsk.RefclkEnable i) =
    climbs-levels j i 2 _ (nat_le 1 (level_of i ports)) ports (omega arith)
    (is-same i) (λ e. absurd cc) (λ r n. at-least 0 (level_of i ports) r)
asked-levels j ports (SvcAsk.UniproEnable i) =
    climbs-levels j i 3 _ (nat_le 2 (level_of i ports)) ports (omega arith)
    (is-same i) (λ e. absurd cc) (λ r n. at-least 1 (level_of i ports) r)
asked-levels j ports (SvcAsk.IntfActivate i) =
    climbs-levels j i 4 _ (nat_le 3 (level_of i ports)) ports (omega arith)
    (is-same i) (λ e. absurd cc) (λ r n. at-least 2 (level_of i ports) r)
asked-levels j ports (SvcAsk.IntfDeviceId i d) = given-levels j i d ports
asked-levels j ports (SvcAsk.RouteCreate i1 d1 i2 d2) =
    climbs-levels j i2 6 _ (is_route i1 d1 i2 d2 ports) ports
    (omega arith) (is-same i2) (λ e. absurd cc) (λ r n. routed-five i1 d1 i2 d2 ports r)
asked-levels j ports (SvcAsk.ConnCreate i1 c1 i2 c2 tc flags) =
    one-of ports (not (i1 == 1) || nat_lt (level_of i2 ports) 6) (svc_refuses ports _) _
    (λ e. refused j ask ports) (λ e. stays j ask (level_of j ports) (level_of j ports) refl)
  where
    ask : SvcAsk
    ask = SvcAsk.ConnCreate i1 c1 i2 c2 tc flags
asked-levels j ports (SvcAsk.ConnDestroy i1 c1 i2 c2) =
    one-of ports (i1 == 1) _ (svc_refuses ports _)
    (λ e. stays j ask (level_of j ports) (level_of j ports) refl) (λ e. refused j ask ports)
  where
    ask : SvcAsk
    ask = SvcAsk.ConnDestroy i1 c1 i2 c2
asked-levels j ports (SvcAsk.RouteDestroy i1 i2) =
    one-of ports (not (i1 == 1) || not (level_of i2 ports == 6)) (svc_refuses ports _) _
    (λ e. refused j ask ports) (λ e. stays j ask (level_of j ports) (level_of j ports) refl)
  where
    ask : SvcAsk
    ask = SvcAsk.RouteDestroy i1 i2
asked-levels j ports SvcAsk.Ping = stays j SvcAsk.Ping (level_of j ports) (level_of j ports) refl
asked-levels j ports (SvcAsk.ProtocolVersion a b) = refused j (SvcAsk.ProtocolVersion a b) ports
asked-levels j ports (SvcAsk.Hello a b) = refused j (SvcAsk.Hello a b) ports
asked-levels j ports (SvcAsk.ModuleInserted a b c) = refused j (SvcAsk.ModuleInserted a b c) ports
asked-levels j ports (SvcAsk.ModuleRemoved a) = refused j (SvcAsk.ModuleRemoved a) ports

-- A step of the table: a record's step, or nothing changes.
pub data StepOn (j kind : ℕ) (payload : List ℕ) (before after : ℕ) : Type 0 where
  nothing_changes : after ≡ before → StepOn j kind payload before after
  by_record : (ask : SvcAsk) → read_svc_ask kind payload ≡ Ok ask
      → StepLevels j ask before after → StepOn j kind payload before after

pub ap-reads : {A : Type 0} (row : Option (Row A)) (payload : List ℕ) (made : A)
    → read_row (unless_own row) payload ≡ Ok made → read_row row payload ≡ Ok made
ap-reads None payload made h = absurd cc
ap-reads (Some row) payload made h = by row.own h
  where
    by : (own : Bool) → read_row (cond own None (Some row)) payload ≡ Ok made
        → read_row (Some row) payload ≡ Ok made
    by true h = absurd cc
    by false h = h

pub step-levels : (j : ℕ) (ports : List Port) {kind : ℕ} {payload : List ℕ}
    → StepOn j kind payload (level_of j ports) (level_of j (svc_step ports kind payload).ports)
step-levels j ports {kind} {payload} = by (read_svc_ask_of_ap kind payload) refl
  where
    by : (r : Result SvcAsk PayloadFault) → read_svc_ask_of_ap kind payload ≡ r
        → StepOn j kind payload (level_of j ports) (level_of j (svc_read ports r).ports)
    by (Ok ask) e =
        by_record ask (ap-reads (row_of svc_asks kind) payload ask e) (asked-levels j ports ask)
    by (Err fault) e = nothing_changes refl
