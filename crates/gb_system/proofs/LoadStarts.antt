-- Images are given, and downloads begin, as the machine does.
use Rattle.std.proofs.Common.{◌≡◌, ◌≤◌, ◌-◌, ◌&&◌, ℕ, Bool, true, false, Option, Some}
use Rattle.std.proofs.Common.{None, Ok, Err, IsTrue, List, [], length}
use Rattle.std.proofs.Common.{length-append, refl, sym, ap, ◌∙◌, subst, arith}
use Rattle.std.proofs.lemmas.Bool.Decides.{nat_tests}
use Rattle.std.proofs.lemmas.List.{length-replicate}
use Rattle.std.specs.List.{list_all}
use Rattle.std.specs.Prelude.{nat_le, nat_lt, replicate, ⊤}
use Rattle.gb_base.specs.Name.{is_name_byte}
use Rattle.gb_base.specs.Tag.{longest_tag}
use Rattle.gb_base.specs.declared.entry.Entry.{Entry}
use Rattle.gb_base.specs.declared.event.Event.TheVariants as event
use Rattle.gb_base.specs.declared.refusal.Refusal.TheVariants as why
use Rattle.gb_base.specs.declared.served.OwnAsk.{OwnAsk}
use Rattle.gb_firmware.specs.declared.images.PutFault.TheVariants as fault
use Rattle.gb_formats.specs.Loader.{find_ask}
use Rattle.gb_formats.specs.Module.{Module}
use Rattle.gb_formats.specs.ModuleLoads.{module_load}
use Rattle.gb_formats.specs.Results.{most_payload}
use Rattle.gb_formats.specs.ValidEvents.{IsTag}
use Rattle.gb_host.specs.Images.{GivesAs}
use Rattle.gb_host.specs.declared.host.Host.{Host}
use Rattle.gb_machine.proofs.Opened.{machine_opened}
use Rattle.gb_machine.proofs.Steps.{begins-first}
use Rattle.gb_machine.specs.Actions.{given, on_host}
use Rattle.gb_machine.specs.Bus.{Place, next_number}
use Rattle.gb_machine.specs.Events.{does}
use Rattle.gb_machine.specs.Host.{with_given}
use Rattle.gb_machine.specs.Loading.{begins, first_trail, loads}
use Rattle.gb_machine.specs.Modules.{module_at, with_module}
use Rattle.gb_machine.specs.Refusals.{module_place}
use Rattle.gb_machine.specs.State.{Plugged, State}
use Rattle.gb_system.proofs.Doings.{does-as, does-by_state, does-given, does-on_host}
use Rattle.gb_system.proofs.HeldAsks.{IsAt, is-at}
use Rattle.gb_system.proofs.Loadings.{load-manifest}
use Rattle.gb_system.proofs.ModuleServes.{short-at, short-with}
use Rattle.gb_system.proofs.Standing.{rehosted, repast, stands-with}
use Rattle.gb_laws.specs.Possible.{IsAskable}
use Rattle.gb_system.specs.Doing.{Does, IsDone, IsRefused}
use Rattle.gb_system.specs.Loading.{BeginsAt, LoadsOver, asks_last}
use Rattle.gb_system.specs.Stands.{PartsStand}
use Rattle.gb_system.specs.declared.parties.Parties.{Parties}

-- ---- FIND fits into a message

tag-short : (tag : List ℕ) → IsTag tag → length tag ≤ 9
tag-short tag is =
    by (nat_lt 0 (length tag)) (nat_le (length tag) longest_tag) (list_all is_name_byte tag) refl is
  where
    by : (a b c : Bool) → nat_le (length tag) longest_tag ≡ b → IsTrue (a && b && c)
        → length tag ≤ 9
    by true true c e f = grind (arith, nat_tests, e)
    by true false c e f = absurd (let g : false ≡ true = f in cc)
    by false b c e f = absurd (let g : false ≡ true = f in cc)

find-askable : (tag : List ℕ) → IsTag tag → IsAskable (find_ask tag).kind (find_ask tag).payload
find-askable tag is =
    let short = tag-short tag is in
    let all = length-append tag (replicate (10 - length tag) 0) in
    let more = length-replicate {A = ℕ} (10 - length tag) 0 in
    (omega arith, omega (arith, short, all, more))

-- ---- a download begins

-- the state with the module as it is then
abbrev with_load : ℕ → ℕ → ℕ → Module → State → State
with_load i c k m s = record s {
  modules = with_module i m s.modules;
  past = record s.past { loading = first_trail i c k (next_number s.bus) s.past.loading };
}

-- the machine asks first, and then the module changes
begins-as : (i c : ℕ) (tag : List ℕ) (k : ℕ) (m : Module) (s : State)
    → asks_last k i c (find_ask tag) (with_load i c k (module_load m c tag) s)
    ≡ begins i c tag k m s
unfolding machine_opened asks_last
begins-as i c tag k m s = sym (begins-first i c tag k m s)

does-loads : {y : Parties} {s : State} {a b : List Entry} (i c : ℕ) (tag : List ℕ) (p : Place)
    (m : Module) → module_place i c s ≡ Some p → module_at i s.modules ≡ Some m
    → Does y (begins i c tag p.connection.number m) s a b → Does y (loads i c tag) s a b
unfolding machine_opened
does-loads {s = s} i c tag p m placed there d =
    does-by_state (λ t. given (module_place i c t) (λ q.
    given (module_at i t.modules) (begins i c tag q.connection.number)))
    (does-given (λ (q : Place). given (module_at i s.modules) (begins i c tag q.connection.number))
    p placed (does-given (begins i c tag p.connection.number) m there d))

load-does : (i c : ℕ) (tag : List ℕ) → does (event.Load i c tag) ≡ loads i c tag
unfolding machine_opened
load-does i c tag = refl

-- A load that isn't refused is done.
pub load-done : {x y : Parties} {s : State} {a b : List Entry} (i c : ℕ) (tag : List ℕ) (k : ℕ)
    (mods : List Plugged) (own : OwnAsk) → PartsStand [] x s → IsTag tag → LoadsOver s i c (Ok k)
    → BeginsAt i c tag (module_at i x.modules) x.modules mods own
    → ((t : State) → PartsStand [] (record x { modules = mods }) t
    → IsAskable own.kind own.payload → Does y (asks_last k i c own) t a b)
    → IsDone y s (event.Load i c tag) a b
load-done {x} {y} {s} {a} {b} i c tag k mods own st valid over begun rest = record {
  allowed = over.0;
  done = subst (λ f. Does y f s a b) (sym (load-does i c tag))
      (at_module (module_at i x.modules) refl begun);
}
  where
    at : IsAt s i c k
    at = is-at s i c k over.1

    at_module : (o : Option Module) → module_at i x.modules ≡ o
        → BeginsAt i c tag o x.modules mods own → Does y (loads i c tag) s a b
    at_module None e h = absurd h
    at_module (Some m) e h =
        let there = ap (module_at i) st.plugged.modules ∙ e in
        let after = module_load m c tag in
        let t = with_load i c k after s in
        let short = subst (λ (bytes : List ℕ). length bytes ≤ most_payload)
        (sym (load-manifest m c tag)) (short-at i s.modules m st.plugged.short there) in
        let stand = repast t.past (stands-with (with_module i after s.modules) mods
        (ap (with_module i after) st.plugged.modules ∙ sym h.1)
        (short-with i after s.modules short st.plugged.short) st) in
        let askable = subst (λ (q : OwnAsk). IsAskable q.kind q.payload) (sym h.0)
        (find-askable tag valid) in
        let d = rest t stand askable in
        does-loads i c tag at.place m at.named there
        (does-as
        (ap (λ q. asks_last k i c q t) h.0 ∙ begins-as i c tag k m s
        ∙ ap (λ j. begins i c tag j m s) (sym at.number)) d)

-- ---- an image is given

image-does : (tag bytes : List ℕ) → does (event.Image tag bytes) ≡ on_host (with_given tag bytes)
unfolding machine_opened
image-does tag bytes = refl

pub image-done : {x : Parties} {s : State} {told : List Entry} (y : Host) (tag bytes : List ℕ)
    (done : ⊤) → PartsStand [] x s → GivesAs tag bytes s.host x.host y (Ok done)
    → IsDone (record x { host = y }) s (event.Image tag bytes) told told
image-done {x} {s} {told} y tag bytes done st gives = record {
  allowed = gives.0;
  done = subst (λ f. Does (record x { host = y }) f s told told) (sym (image-does tag bytes))
      (does-on_host (with_given tag bytes)
      (rehosted y (with_given tag bytes s.host) st gives.1));
}

-- the tag has an image
pub image-taken : {x : Parties} {s : State} (y : Host) (tag bytes : List ℕ) → PartsStand [] x s
    → GivesAs tag bytes s.host x.host y (Err fault.Taken)
    → IsRefused (record x { host = y }) s (event.Image tag bytes) why.Occupied
image-taken {x} {s} y tag bytes st gives =
    record { refused = gives.0; stand = rehosted y s.host st (st.host ∙ sym gives.1.0) }
