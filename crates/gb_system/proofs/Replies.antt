-- A request that was delivered is answered as the machine does.
use Rattle.std.proofs.Common.{◌≡◌, ◌<◌, ℕ, false, if◌then◌else◌, Option, Some, None, option_map}
use Rattle.std.proofs.Common.{List, [], ◌∷◌, ◌++◌, refl, sym, ap, ◌∙◌, subst}
use Rattle.gb_base.specs.declared.end.End.{End}
use Rattle.gb_base.specs.declared.end.Side.{Side}
use Rattle.gb_base.specs.declared.end.Side.TheVariants as side
use Rattle.gb_base.specs.declared.entry.Entry.{Entry}
use Rattle.gb_base.specs.declared.entry.Entry.TheVariants as entry
use Rattle.gb_bus.specs.Delivering.{MayReply, Names}
use Rattle.gb_bus.specs.Stands as bus
use Rattle.gb_bus.specs.Wiring.{ends_of}
use Rattle.gb_bus.specs.declared.answers.Asked.{Asked}
use Rattle.gb_bus.specs.declared.bus.Bus.{Bus}
use Rattle.gb_formats.specs.Message.{message_size, response, spelling}
use Rattle.gb_invariants.specs.Facts.{Loose}
use Rattle.gb_machine.proofs.Opened.{machine_opened}
use Rattle.gb_machine.proofs.Steps.{told, with_bus}
use Rattle.gb_machine.specs.Actions.{◌▸◌}
use Rattle.gb_machine.specs.Bus.{Connection, Item, connection_of, end_of, other_side}
use Rattle.gb_machine.specs.Delivery.{replied}
use Rattle.gb_machine.specs.Incoming.{Incoming, reply_entry, reply_item}
use Rattle.gb_machine.specs.Responding.{Response, replies, responds, serves_oneway}
use Rattle.gb_machine.specs.Serving.{Answer, answer}
use Rattle.gb_machine.specs.State.{State}
use Rattle.gb_system.proofs.Doings.{does-is}
use Rattle.gb_system.proofs.Heard.{request-sound}
use Rattle.gb_system.proofs.Standing.{rebussed}
use Rattle.gb_system.specs.Doing.{Does}
use Rattle.gb_system.specs.Drafts.{IsUpon, end_at, reply_told}
use Rattle.gb_system.specs.Stands.{PartsStand, around_bus}
use Rattle.gb_system.specs.declared.parties.Parties.{Parties}

replies-is : (at : Side) (c : Connection) (q : Incoming) (a : Answer) (s : State)
    → replies at c q a s
    ≡ told (with_bus (replied c.number (other_side at) (reply_item q a) s.bus) s)
    (reply_entry at c q a ∷ [])
unfolding machine_opened
replies-is at c q a s = refl

-- a request that gets a reply is answered, and then what the answer brings about is done
pub responds-twoway : (at : Side) (c : Connection) (q : Incoming) (r : Response) (s : State)
    → q.oneway ≡ false → responds at c q r s ≡ (replies at c q r.answer ▸ r.behind) s
unfolding machine_opened
responds-twoway at c q r s twoway =
    ap (λ b. (if b then serves_oneway q r else (replies at c q r.answer ▸ r.behind)) s) twoway

-- what is told of the reply
told-is : (at : Side) (c : Connection) (code : ℕ) (payload : List ℕ) (q : Incoming) (asked : Asked)
    (ends : ℕ × End) (e : Entry) → Names asked q → q.kind < 128 → ends ≡ ends_of c
    → (asked.kind < 128
    → e ≡ reply_told at ends asked.number asked.label asked.kind code payload)
    → e ≡ reply_entry at c q (answer code payload)
told-is at c code payload q asked ends e names low same is =
    is (subst (λ k. k < 128) (sym names.kind) low)
    ∙ ap (λ o. reply_told at ends o asked.label asked.kind code payload) names.number
    ∙ ap (λ l. reply_told at ends q.number l asked.kind code payload) names.label
    ∙ ap (λ k. reply_told at ends q.number q.label k code payload) names.kind
    ∙ ap (λ es. reply_told at es q.number q.label q.kind code payload) same
    ∙ by at
  where
    from_to : End → End → Entry
    from_to from to = entry.Replied q.number from to code (message_size payload)
        (spelling (response q.label q.kind code payload))

    by : (t : Side) → from_to (end_at t (ends_of c)) (end_at (other_side t) (ends_of c))
        ≡ from_to (end_of t c) (end_of (other_side t) c)
    by side.Ap = refl
    by side.Far = refl

some-is : {A : Type 0} (x y : A) (o : Option A) → Some x ≡ o → o ≡ Some y → x ≡ y
some-is x y o h e = let both : Some x ≡ Some y = h ∙ e in cc

pub none-not : {A : Type 0} (y : A) (o : Option A) → None ≡ o → o ≡ Some y → ⊥
none-not y o h e = let both : None ≡ Some y = h ∙ e in absurd cc

pub answered-done : {x : Parties} {s : State} {a b : List Entry} {loose : List Loose} (y : Bus)
    (k : ℕ) (at : Side) (asked : Asked) (code : ℕ) (payload : List ℕ) (ends : ℕ × End) (e : Entry)
    (c : Connection) (item : Item) → PartsStand loose x s → IsUpon k s.bus c
    → (may : MayReply asked s.bus item) → Some ends ≡ option_map ends_of (connection_of k s.bus)
    → bus.Stands (around_bus [] s) y
    (replied k (other_side at) (reply_item may.request (answer code payload)) s.bus)
    → (asked.kind < 128
    → e ≡ reply_told at ends asked.number asked.label asked.kind code payload)
    → b ≡ a ++ e ∷ []
    → Does (record x { bus = y }) (replies at c may.request (answer code payload)) s a b
answered-done {x} {s} {a} {b} y k at asked code payload ends e c item st live may has stands says
    pushed =
    let q = may.request in
    let reply = reply_item q (answer code payload) in
    let after = replied c.number (other_side at) reply s.bus in
    does-is (with_bus after s) (reply_entry at c q (answer code payload) ∷ [])
    (replies-is at c q (answer code payload) s)
    (pushed ∙ ap (λ f. a ++ f ∷ [])
    (told-is at c code payload q asked ends e may.names
    (request-sound s.bus item q st.requests.sound may.is).kind
    (some-is ends (ends_of c) (option_map ends_of (connection_of k s.bus)) has live.ends) says))
    (rebussed [] y after st
    (subst (λ j. bus.Stands (around_bus [] s) y (replied j (other_side at) reply s.bus))
    (sym live.number) stands)
    refl)
