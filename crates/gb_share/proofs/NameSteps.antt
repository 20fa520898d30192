-- What becomes of names at an event.
use Rattle.std.proofs.Common.{◌≡◌, ℕ, ◌+◌, false, Option, Some, None, List, [], ◌∷◌, ◌++◌, refl}
use Rattle.std.proofs.Common.{sym, ap, ◌∙◌, subst}
use Rattle.gb_base.specs.declared.bridge.BridgeAsk.{BridgeAsk}
use Rattle.gb_base.specs.declared.end.End.{End}
use Rattle.gb_base.specs.declared.end.End.TheVariants as end
use Rattle.gb_base.specs.declared.end.Side.TheVariants as side
use Rattle.gb_base.specs.declared.event.Event.{Event}
use Rattle.gb_base.specs.declared.event.Event.TheVariants as event
use Rattle.gb_base.specs.declared.name.Name.{Name}
use Rattle.gb_base.specs.declared.interface.Link.{Link}
use Rattle.gb_base.specs.declared.refusal.Refusal.{Refusal}
use Rattle.gb_base.specs.declared.refusal.Refusal.TheVariants as why
use Rattle.gb_formats.specs.Bridges.{ask_request, bridge_answer}
use Rattle.gb_formats.specs.Grammar.{default_timeout}
use Rattle.gb_formats.specs.ValidEvents.{IsFar, IsValid}
use Rattle.gb_machine.proofs.BridgeAnswers.{answered-by}
use Rattle.gb_machine.proofs.Conditions.{AreUnmet, free}
use Rattle.gb_machine.proofs.Options.{none-of}
use Rattle.gb_machine.proofs.Steps.{step-does, step-refused}
use Rattle.gb_machine.specs.Actions.{Told, by_state, change, given, nothing, on_host, ◌▸◌}
use Rattle.gb_machine.specs.Bus.{next_number}
use Rattle.gb_machine.specs.Events.{does, step}
use Rattle.gb_machine.specs.Host.{link_at, with_link}
use Rattle.gb_machine.specs.HostRefusals.{bridge_conditions}
use Rattle.gb_machine.specs.LineActions.{ap_draft, bridge_sent, bridges, copies, sends, sends_on}
use Rattle.gb_machine.specs.LineActions.{spent}
use Rattle.gb_machine.specs.Lists.{conditions_of, without}
use Rattle.gb_machine.specs.Names.{bound, freed, is_bound, named, same_name}
use Rattle.gb_machine.specs.Refusals.{conditions, has_no_label, refusal}
use Rattle.gb_machine.specs.State.{State}
use Rattle.gb_share.proofs.NamesKept.{keeps_asks, keeps_boots, keeps_by_state, keeps_cancels}
use Rattle.gb_share.proofs.NamesKept.{keeps_change, keeps_drains, keeps_given, keeps_loads}
use Rattle.gb_share.proofs.NamesKept.{keeps_notices, keeps_on_host, keeps_plugs}
use Rattle.gb_share.proofs.NamesKept.{keeps_pulls, keeps_stirs, keeps_ticks}
use Rattle.gb_share.proofs.NamesServed.{keeps_answers, keeps_delivers, keeps_injects}
use Rattle.gb_share.proofs.NamesServed.{keeps_settles, keeps_shows}
use Rattle.gb_system.proofs.BoundNames.{apart-bound, apart-freed}
use Rattle.gb_system.specs.NameOrder.{AreApart}

-- names with one more, where it names a request
abbrev pub named_too : Name → Option ℕ → List (Name × ℕ) → List (Name × ℕ)
named_too name None names = names
named_too name (Some n) names = names ++ (name, n) ∷ []

-- the names after an event that isn't refused
abbrev pub renamed : State → Event → List (Name × ℕ)
renamed s (event.Send name to kind payload timeout) =
    named_too name (Some (next_number s.bus)) s.names
renamed s (event.Bridge name i c what) = named_too name (Some (next_number s.bus)) s.names
renamed s (event.Copy x y) = named_too y (named x s.names) s.names
renamed s (event.Forget name) = without (λ p. same_name p.0 name) s.names
renamed s _ = s.names

-- ---- requests

names_sent_on : (name : Name) (k kind : ℕ) (payload : List ℕ) (timeout : ℕ) (s : State)
    → (sends_on name k kind payload timeout s).state.names
    ≡ s.names ++ (name, next_number s.bus) ∷ []
unfolding sends_on by_state ◌▸◌ change
names_sent_on name k kind payload timeout s =
    keeps_asks (ap_draft k kind payload (s.now + timeout))
    (bound name (next_number s.bus) s)

names_sent : (name : Name) (to : End) (kind : ℕ) (payload : List ℕ) (timeout : ℕ) (s : State)
    → IsFar to → refusal s (event.Send name to kind payload timeout) ≡ None
    → (sends name to kind payload timeout s).state.names
    ≡ s.names ++ (name, next_number s.bus) ∷ []
unfolding sends by_state given nothing
names_sent name end.Svc kind payload timeout s far allowed =
    names_sent_on name 1 kind payload timeout s
names_sent name (end.Ap a) kind payload timeout s far allowed = absurd far
names_sent name (end.Module i c) kind payload timeout s far allowed = by (link_at i c s.host) refl
  where
    met : AreUnmet (conditions s (event.Send name (end.Module i c) kind payload timeout))
    met = free s (event.Send name (end.Module i c) kind payload timeout) allowed

    by : (o : Option Link) → link_at i c s.host ≡ o
        → (given o (λ l. sends_on name l.connection kind payload timeout) s).state.names
        ≡ s.names ++ (name, next_number s.bus) ∷ []
    by None e = absurd (let no = met.1.1.0 in cc (no))
    by (Some l) e = names_sent_on name l.connection kind payload timeout s

names_bridged : (name : Name) (i c : ℕ) (what : BridgeAsk) (s : State)
    → refusal s (event.Bridge name i c what) ≡ None
    → (bridges name i c what s).state.names ≡ s.names ++ (name, next_number s.bus) ∷ []
unfolding bridges by_state given nothing bridge_sent ◌▸◌ on_host change
names_bridged name i c what s allowed = by (link_at i c s.host) refl
  where
    met : AreUnmet (conditions s (event.Bridge name i c what))
    met = free s (event.Bridge name i c what) allowed

    by : (o : Option Link) → link_at i c s.host ≡ o
        → (given o (λ l. bridge_sent name l what (bridge_answer l.protocol what)) s).state.names
        ≡ s.names ++ (name, next_number s.bus) ∷ []
    by None e = absurd (let no = met.1.1.0 in cc (no))
    by (Some l) e =
        let linked = subst (λ o. AreUnmet (conditions_of
        (λ k. bridge_conditions k what ++ (has_no_label k.connection side.Ap s, why.NoLabel) ∷ [])
        o)) e met.1.1.1.1.1 in
        subst (λ r. (bridge_sent name l what r s).state.names
        ≡ s.names ++ (name, next_number s.bus) ∷ [])
        (sym (answered-by l.protocol what linked.0 linked.1.0))
        (names_sent_on name l.connection (ask_request what).0 (ask_request what).1 default_timeout
        (record s { host = with_link l.intf l.cport (spent what) s.host }))

-- ---- copies

names_copied : (x y : Name) (s : State)
    → (copies x y s).state.names ≡ named_too y (named x s.names) s.names
unfolding copies by_state given nothing change
names_copied x y s = by (named x s.names)
  where
    by : (o : Option ℕ)
        → (given o (λ n. change (bound y n)) s).state.names ≡ named_too y o s.names
    by None = refl
    by (Some n) = refl

names_freed : (name : Name) (s : State)
    → (change (freed name) s).state.names ≡ without (λ p. same_name p.0 name) s.names
unfolding change
names_freed name s = refl

-- ---- all events

-- what actions keep names
ruleset keeping = (
  keeps_boots,
  keeps_plugs,
  keeps_pulls,
  keeps_notices,
  keeps_drains,
  keeps_stirs,
  keeps_delivers,
  keeps_settles,
  keeps_answers,
  keeps_cancels,
  keeps_ticks,
  keeps_injects,
  keeps_on_host,
  keeps_loads,
  keeps_shows,
  keeps_by_state,
  keeps_given,
  keeps_change,
)

names_done : (s : State) (e : Event) → IsValid e → refusal s e ≡ None
    → (does e s).state.names ≡ renamed s e
unfolding does
names_done s (event.Send name to kind payload timeout) valid allowed =
    names_sent name to kind payload timeout s valid.1 allowed
names_done s (event.Bridge name i c what) valid allowed = names_bridged name i c what s allowed
names_done s (event.Copy x y) valid allowed = names_copied x y s
names_done s (event.Forget name) valid allowed = names_freed name s
names_done s _ valid allowed = search keeping depth 8

pub names_after : (s : State) (e : Event) → IsValid e → refusal s e ≡ None
    → (step s e).state.names ≡ renamed s e
names_after s e valid allowed =
    ap (λ (t : Told). t.state.names) (step-does s e allowed) ∙ names_done s e valid allowed

pub names_refused : (s : State) (e : Event) (why : Refusal) → refusal s e ≡ Some why
    → (step s e).state.names ≡ s.names
names_refused s e why met = ap (λ (t : Told). t.state.names) (step-refused s e why met)

-- ---- names differ

-- what a line binds was free
pub was_free : (s : State) (name : Name) → is_bound name s ≡ false → named name s.names ≡ None
was_free s name free = none-of (named name s.names) free

free_sent : (s : State) (name : Name) (to : End) (kind : ℕ) (payload : List ℕ) (timeout : ℕ)
    → IsFar to → refusal s (event.Send name to kind payload timeout) ≡ None
    → named name s.names ≡ None
free_sent s name end.Svc kind payload timeout far allowed =
    was_free s name (free s (event.Send name end.Svc kind payload timeout) allowed).0
free_sent s name (end.Ap a) kind payload timeout far allowed = absurd far
free_sent s name (end.Module i c) kind payload timeout far allowed =
    was_free s name (free s (event.Send name (end.Module i c) kind payload timeout) allowed).0

apart_too : (name : Name) (o : Option ℕ) (names : List (Name × ℕ)) → AreApart names
    → named name names ≡ None → AreApart (named_too name o names)
apart_too name None names apart none = apart
apart_too name (Some n) names apart none = apart-bound name n names apart none

-- they do after an event, if they did before it
pub renamed_apart : (s : State) (e : Event) → IsValid e → refusal s e ≡ None → AreApart s.names
    → AreApart (renamed s e)
renamed_apart s (event.Send name to kind payload timeout) valid allowed apart =
    apart_too name (Some (next_number s.bus)) s.names apart
    (free_sent s name to kind payload timeout valid.1 allowed)
renamed_apart s (event.Bridge name i c what) valid allowed apart =
    apart_too name (Some (next_number s.bus)) s.names apart
    (was_free s name (free s (event.Bridge name i c what) allowed).0)
renamed_apart s (event.Copy x y) valid allowed apart =
    apart_too y (named x s.names) s.names apart
    (was_free s y (free s (event.Copy x y) allowed).1.0)
renamed_apart s (event.Forget name) valid allowed apart =
    apart-freed (λ p. same_name p.0 name) s.names apart
renamed_apart s _ valid allowed apart = apart

pub apart_after : (s : State) (e : Event) → IsValid e → AreApart s.names
    → AreApart (step s e).state.names
apart_after s e valid apart = by (refusal s e) refl
  where
    by : (o : Option Refusal) → refusal s e ≡ o → AreApart (step s e).state.names
    by None allowed =
        subst AreApart (sym (names_after s e valid allowed)) (renamed_apart s e valid allowed apart)
    by (Some why) met = subst AreApart (sym (names_refused s e why met)) apart
