-- What a far side asked and is awaited is on a connection that is live and wired.
use Rattle.std.proofs.Common.{Some, ap, arith, false, inl, inr, subst, sym, true, ℕ, ⊎_elim}
use Rattle.std.proofs.Common.{◌∙◌, ◌≡◌, ◌≢◌, ◌≤◌, ◌⊎◌}
use Rattle.gb_base.specs.declared.end.Side.TheVariants as side
use Rattle.gb_machine.proofs.Lists.{nth-past}
use Rattle.gb_machine.specs.Bus.{Bus, Connection, Request, next_number, request_of}
use Rattle.gb_machine.specs.{LawsBus.is_awaited, Members.IsIn, Requests.is_of, Sending.Draft}
use Rattle.gb_machine.specs.{Sending.sent, Wiring.with_connection}
use Rattle.gb_invariants.proofs.Awaiting.{AwaitsFewer, is-of, none-some, same-some, sent-before}
use Rattle.gb_invariants.proofs.Awaiting.{sent-made}
use Rattle.gb_invariants.proofs.BusChanges.{AsksNothing, BusChange, awaits-after, becomes}
use Rattle.gb_invariants.proofs.BusChanges.{bus_after, leaves, made_by, opens, sends, unwires}
use Rattle.gb_invariants.proofs.Wires.{AreOn, are-on-after, cuts_of, made-number}
use Rattle.gb_invariants.specs.Facts.{OutcomesFit}
use Rattle.gb_laws.proofs.links.LinkSides.{side_ended-none}

-- What a far side asked and is awaited is on a connection that is live and wired.
abbrev pub FarFits : Bus → Type 0
FarFits b =
    (n : ℕ) (r : Request) → request_of n b ≡ Some r → is_awaited n b ≡ true → r.side ≡ side.Far
    → AreOn r.connection b

-- what that needs of a change: where a far side asks, its connection is so, where one goes, it
-- isn't wired, and where one is made, none was asked on it
abbrev pub IsFarWell : BusChange → Bus → Type 0
IsFarWell (sends d label) b = OutcomesFit b × (d.side ≡ side.Far → AreOn d.connection b)
IsFarWell (leaves k) b =
    (c : Connection) → IsIn c b.connections → c.number ≡ k → c.wired ≡ true → ⊥
IsFarWell (opens a i c protocol) b =
    (n : ℕ) (r : Request) → request_of n b ≡ Some r → r.connection ≤ b.made
IsFarWell x b = AsksNothing x b

-- where no more is awaited, and no connection of such a request is cut or made
far-fewer : (x : BusChange) (b : Bus) → AwaitsFewer b (bus_after x b)
    → ((n : ℕ) (r : Request) → request_of n b ≡ Some r → is_awaited n (bus_after x b) ≡ true
    → r.side ≡ side.Far → AreOn r.connection b → (cuts_of x ≡ Some r.connection → ⊥)
    × ((c : Connection) → made_by x b ≡ Some c → c.number ≢ r.connection))
    → FarFits b → FarFits (bus_after x b)
far-fewer x b fewer well h n r made w far =
    let was = ap (λ rs. request_of n (record b { requests = rs })) (sym fewer.same) ∙ made in
    let f = h n r was (fewer.before n w) far in
    let g = well n r was w far f in are-on-after x b r.connection g.0 g.1 f

far-sent : (d : Draft) (label : ℕ) (b : Bus) → IsFarWell (sends d label) b → FarFits b
    → FarFits (sent d label b)
far-sent d label b own h n r made w far = ⊎_elim
    (λ old. stays (h n r old (was old (sent-before d label b n own.0 w)) far))
    (λ new. subst (λ (q : Request). AreOn q.connection (sent d label b)) (sym new.1)
    (stays (own.1 (ap (λ (q : Request). q.side) (sym new.1) ∙ far)))) (sent-made d label b n r made)
  where
    stays : {k : ℕ} → AreOn k b → AreOn k (sent d label b)
    stays {k} f =
        are-on-after (sends d label) b k (λ e. none-some e) (λ c e. absurd (none-some e)) f

    was : request_of n b ≡ Some r
        → (is_awaited n b ≡ true) ⊎ ((n ≡ next_number b) × (d.oneway ≡ false))
        → is_awaited n b ≡ true
    was old (inl a) = a
    was old (inr new) = absurd (none-some (sym (nth-past (next_number b) b.requests (omega arith))
        ∙ ap (λ k. request_of k b) (sym new.0) ∙ old))

pub far-after : (x : BusChange) (b : Bus) → IsFarWell x b → FarFits b → FarFits (bus_after x b)
far-after (sends d label) b well h = far-sent d label b well h
far-after (unwires k) b well h =
    far-fewer (unwires k) b (awaits-after (unwires k) b tt) (λ n r made w far f. (
      λ e. side_ended-none k side.Far (with_connection k (becomes (unwires k) b) b) n r made
          (subst (λ j. is_of j side.Far r ≡ true) (sym (same-some k r.connection e))
          (subst (λ s. is_of r.connection s r ≡ true) far (is-of r))) w,
      λ c e. absurd (none-some e),
    )) h
far-after (leaves k) b goes h =
    far-fewer (leaves k) b (awaits-after (leaves k) b tt) (λ n r made w far f. (
      λ e. goes f.there.connection f.there.live (f.there.number ∙ sym (same-some k r.connection e))
          (f.wired f.there.connection f.there.live f.there.number),
      λ c e. absurd (none-some e),
    )) h
far-after (opens a i p protocol) b below h =
    far-fewer (opens a i p protocol) b (awaits-after (opens a i p protocol) b tt)
    (λ n r made w far f. (
      λ e. none-some e,
      λ c e at. let low = below n r made in
          absurd (omega (arith, low, made-number (opens a i p protocol) b c e, at)),
    )) h
far-after x b well h = far-fewer x b (awaits-after x b well)
    (λ n r made w far f. (λ e. none-some e, λ c e. absurd (none-some e))) h
