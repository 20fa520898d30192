-- Images that are given, and ids that are free.
use Rattle.std.proofs.Common.{◌≡◌, ◌≢◌, ℕ, true, cond, Option, Some, None, is_some, Result}
use Rattle.std.proofs.Common.{Ok, Err, List, [], ◌∷◌, ◌++◌, refl, sym, ap, ◌∙◌, subst}
use Rattle.std.specs.Bool.{⊤}
use Rattle.gb_base.specs.declared.entry.ConnState.TheVariants as state
use Rattle.gb_base.specs.declared.interface.Link.{Link}
use Rattle.gb_base.specs.declared.refusal.Refusal.TheVariants as why
use Rattle.gb_base.specs.declared.refusal.Refusal.{Refusal}
use Rattle.gb_base.specs.declared.steps.SequenceStep.TheVariants as steps
use Rattle.gb_firmware.specs.Lending.{IsNotPut, PutsAs}
use Rattle.gb_firmware.specs.declared.images.PutFault.{PutFault}
use Rattle.gb_firmware.specs.declared.images.PutFault.TheVariants as fault
use Rattle.gb_formats.specs.Images.{Images, forgotten, image_of}
use Rattle.gb_host.proofs.Fronts.{spelled-after}
use Rattle.gb_host.specs.Images.{GivesAs, IsNotGiven}
use Rattle.gb_host.specs.Stands.{Stands, host_of}
use Rattle.gb_host.specs.Turning.{Pends, Turns, spelled}
use Rattle.gb_host.specs.declared.acts.Act.{Act}
use Rattle.gb_host.specs.declared.host.Host.{Host}
use Rattle.gb_machine.specs.Failures.{link_told}
use Rattle.gb_machine.specs.Host as machine
use Rattle.gb_machine.specs.Host.{in_state, with_freed, with_link}
use Rattle.gb_machine.specs.HostRefusals.{image_conditions}
use Rattle.gb_machine.specs.HostTurns.{disconnects}
use Rattle.gb_machine.specs.Lists.{first_met}
use Rattle.gb_machine.specs.SequenceSteps.{purpose}
use Rattle.gb_machine.specs.Sequences.{asked_on, step_asked, way_of}
use Rattle.gb_machine.specs.Turns as turns
use Rattle.gb_machine.specs.Turns.{Turn}

-- ---- an image is given

-- one is there
there : {A : Type 0} (o : Option A) → o ≢ None → is_some o ≡ true
there None some = absurd (some refl)
there (Some x) some = refl

-- the only condition is met, or isn't
abbrev only : (o : Option (List ℕ)) → Option Refusal
only o = first_met ((is_some o, why.Occupied) ∷ [])

-- an image isn't given
not-given : (x : Host) (h : machine.Host) (tag : List ℕ) (e : PutFault) → Stands x h
    → IsNotPut tag x.images e → IsNotGiven tag h e
not-given x h tag fault.Taken s some =
    ap (λ (g : machine.Host). first_met (image_conditions tag g)) s
    ∙ ap (λ b. cond b (Some why.Occupied) None) (there (image_of tag x.images) some)
not-given x h tag (fault.Memory refused) s none =
    ap (λ (g : machine.Host). first_met (image_conditions tag g)) s ∙ ap only none

-- an image is given as the images say
pub gives : (x : Host) (h : machine.Host) (tag bytes : List ℕ) (is : Images) (r : Result ⊤ PutFault)
    → Stands x h → PutsAs tag bytes x.images is r
    → GivesAs tag bytes h x (record x { images = is }) r
gives x h tag bytes is (Ok done) s put = (
  ap (λ (g : machine.Host). first_met (image_conditions tag g)) s ∙ ap only put.0,
  ap (machine.with_given tag bytes) s
      ∙ ap (λ js. record (host_of x) { images = js }) (sym put.1),
)
gives x h tag bytes is (Err e) s put = (
  not-given x h tag e s put.0,
  (ap (λ js. record (host_of x) { images = js }) put.1, refl),
)

-- ---- ids are free behind a turn

-- a turn, and then the ids of a connection are free
abbrev freeing : ℕ → Turn → Turn
freeing k t = record t { host = with_freed k t.host }

-- the first request of a close sequence is the same once ids are free
asks-freed : (k i c : ℕ) (o : Option ℕ) (h : machine.Host)
    → asked_on o (purpose i c steps.TellDisconnecting) (with_freed k h)
    ≡ freeing k (asked_on o (purpose i c steps.TellDisconnecting) h)
asks-freed k i c None h = refl
asks-freed k i c (Some on) h = refl

-- what is pending doesn't rest on images
pends-same : (acts : List turns.Act) (x : Host) (is : Images) → Pends acts x
    → Pends acts (record x { images = is })
pends-same [] x is pends = tt
pends-same (turns.Act.Ask q ∷ acts) x is pends = pends-same acts x is pends
pends-same (turns.Act.Make m q ∷ acts) x is pends =
    (record { pending = pends.0.pending; room = pends.0.room }, pends-same acts x is pends.1)
pends-same (turns.Act.Shut k ∷ acts) x is pends = pends-same acts x is pends
pends-same (turns.Act.Leave k ∷ acts) x is pends = pends-same acts x is pends
pends-same (turns.Act.Tell e ∷ acts) x is pends = pends-same acts x is pends

-- ids are free behind a turn
freed-turns : (k : ℕ) (t : Turn) (front all : List Act) (x : Host) (is : Images)
    → is ≡ forgotten k x.images → Turns t front x all
    → Turns (freeing k t) front (record x { images = is }) all
freed-turns k t front all x is e turned = record {
  host = ap (with_freed k) turned.host ∙ ap (λ js. record (host_of x) { images = js }) (sym e);
  acts = turned.acts;
  pending = pends-same t.acts x is turned.pending;
}

-- the connection of a close sequence is shut and told to be closing
abbrev closes : Link → List turns.Act
closes l = turns.Act.Shut l.connection ∷ turns.Act.Tell (link_told state.Closing l) ∷ []

-- acts are done before a turn
later-turns : (acts : List turns.Act) (t : Turn) (front before all : List Act) (x : Host)
    → Pends (acts ++ t.acts) x → before ≡ front ++ spelled acts → Turns t before x all
    → Turns (record t { acts = acts ++ t.acts }) front x all
later-turns acts t front before all x pends e turned = record {
  host = turned.host;
  acts = spelled-after acts t.acts front before all e turned.acts;
  pending = pends;
}

-- The close sequence of a connection begins, and then its ids are free.
pub disconnected : (i c : ℕ) (l : Link) (h : machine.Host) (front before all : List Act) (x : Host)
    (is : Images) → before ≡ front ++ spelled (closes l)
    → Turns (step_asked (purpose i c steps.TellDisconnecting)
    (with_link i c (in_state state.Closing) h)) before x all
    → is ≡ forgotten l.connection x.images
    → Turns (disconnects (Some l) (purpose i c steps.TellDisconnecting) h) front
    (record x { images = is }) all
disconnected i c l h front before all x is e turned f =
    let k = l.connection in
    let p = purpose i c steps.TellDisconnecting in
    let g = with_link i c (in_state state.Closing) h in
    let t = step_asked p g in
    let new = record x { images = is } in
    let freed : Turns (freeing k t) before new all = freed-turns k t before all x is f turned in
    let asked : step_asked p (with_freed k g) ≡ freeing k t = asks-freed k i c (way_of p g) g in
    let same : Turns (step_asked p (with_freed k g)) before new all =
    subst (λ u. Turns u before new all) (sym asked) freed in
    later-turns (closes l) (step_asked p (with_freed k g)) front before all new same.pending e same
