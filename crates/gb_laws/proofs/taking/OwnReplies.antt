-- A reply is of its own connection, where what it replies to was.
use Rattle.std.proofs.Common.{Bool, List, None, Option, Some, ap, cond, false, inl, refl, subst}
use Rattle.std.proofs.Common.{sym, true, ℕ, [], ◌++◌, ◌∙◌, ◌∷◌, ◌≡◌}
use Rattle.std.specs.Prelude.{Err, Ok, Result, option_map}
use Rattle.gb_base.specs.declared.end.Side.{Side}
use Rattle.gb_base.specs.declared.end.End.TheVariants as end
use Rattle.gb_base.specs.declared.end.Side.TheVariants as side
use Rattle.gb_base.specs.declared.entry.Entry.{Entry}
use Rattle.gb_base.specs.declared.entry.Entry.TheVariants as entry
use Rattle.gb_base.specs.declared.reasons.RawFault.{RawFault}
use Rattle.gb_formats.specs.Message.{Message, message_size, response, spelling}
use Rattle.gb_formats.specs.Wire.{raw_message}
use Rattle.gb_machine.specs.Bus.{Ask, Bus, Connection, Item, Raw, RawReply, Reply, Request}
use Rattle.gb_machine.specs.Bus.{other_side, request_of}
use Rattle.gb_machine.specs.Incoming.{Incoming, incoming, incoming_raw, is_request, raw_request}
use Rattle.gb_machine.specs.Incoming.{reply_entry, reply_item, request_in}
use Rattle.gb_machine.specs.LawsHotPlug.{IsAskedOn, IsOwnItem, IsRepliedOn, told_since}
use Rattle.gb_machine.specs.{Members.IsIn, Serving.Answer}
use Rattle.gb_invariants.proofs.{Apart.SameEnds, Awaiting.same-some, BusChanges.KeepsRequests}
use Rattle.gb_invariants.proofs.{Lists.in-behind}
use Rattle.gb_laws.proofs.{taking.Owning.at-ends, points.ToldSince.since-opened}

-- the reply to a request that was made on the connection
asked-reply : (told : List Entry) (b after : Bus) (x c d : Connection) (at : Side) (n : ℕ)
    (q : Request) (r : Answer) → SameEnds x d
    → c.number ≡ d.number → KeepsRequests b after → request_of n b ≡ Some q
    → IsAskedOn c (other_side at) n told b → IsRepliedOn d (other_side at) n r.result r.payload
    (told ++ reply_entry at x (incoming n q) r ∷ []) after
asked-reply told b after x c d at n q r ends number keeps made own =
    let same = same-some own.0 q (sym own.1 ∙ made) in
    by at (ap (λ (y : Request). y.connection) (sym same) ∙ own.2 ∙ number)
    (ap (λ (y : Request). y.side) (sym same) ∙ own.3)
  where
    by : (at : Side) → q.connection ≡ d.number → q.side ≡ other_side at
        → IsRepliedOn d (other_side at) n r.result r.payload
        (told ++ reply_entry at x (incoming n q) r ∷ []) after
    by side.Ap on from = (
      q,
      keeps n q made,
      on,
      from,
      at-ends (λ k a p. IsIn (entry.Replied (Some n) (end.Ap a) p r.result (message_size r.payload)
          (spelling (response q.label q.kind r.result r.payload)))
          (told ++ reply_entry side.Ap x (incoming n q) r ∷ [])) ends
          (in-behind _ told (reply_entry side.Ap x (incoming n q) r ∷ []) (inl refl)),
    )
    by side.Far on from = (
      q,
      keeps n q made,
      on,
      from,
      at-ends (λ k a p. IsIn (entry.Replied (Some n) p (end.Ap a) r.result (message_size r.payload)
          (spelling (response q.label q.kind r.result r.payload)))
          (told ++ reply_entry side.Far x (incoming n q) r ∷ [])) ends
          (in-behind _ told (reply_entry side.Far x (incoming n q) r ∷ []) (inl refl)),
    )

-- the reply to raw bytes
raw-reply : (told : List Entry) (after : Bus) (x c d : Connection) (at : Side) (y : Entry)
    (q : Message) (r : Answer) → SameEnds x d
    → c.number ≡ d.number → at ≡ side.Ap → IsIn y (told_since c.number told)
    → IsOwnItem (told ++ reply_entry at x (incoming_raw q) r ∷ []) after d (other_side at)
    (reply_item (incoming_raw q) r)
raw-reply told after x c d at y q r ends number from i =
    subst (λ s. IsOwnItem (told ++ reply_entry s x (incoming_raw q) r ∷ []) after d (other_side s)
    (reply_item (incoming_raw q) r)) (sym from) (
      refl,
      subst (λ k. IsIn (entry.Replied None (end.Ap d.ap) d.peer r.result (message_size r.payload)
          (spelling (response q.id q.kind r.result r.payload)))
          (told_since k (told ++ reply_entry side.Ap x (incoming_raw q) r ∷ []))) number
          (at-ends (λ k a p. IsIn (entry.Replied None (end.Ap a) p r.result (message_size r.payload)
          (spelling (response q.id q.kind r.result r.payload)))
          (told_since c.number (told ++ reply_entry side.Ap x (incoming_raw q) r ∷ []))) ends
          (since-opened c.number told y i (reply_entry side.Ap x (incoming_raw q) r ∷ [])
          (reply_entry side.Ap x (incoming_raw q) r) (inl refl))),
    )

pub own-reply : (told : List Entry) (b after : Bus) {x : Connection} (c : Connection)
    {d : Connection} (at : Side) (item : Item) (q : Incoming) (r : Answer) → SameEnds x d
    → c.number ≡ d.number → KeepsRequests b after → request_in item b ≡ Some q
    → IsOwnItem told b c at item
    → IsOwnItem (told ++ reply_entry at x q r ∷ []) after d (other_side at) (reply_item q r)
own-reply told b after {x} c {d} at (Ask n) q r ends number keeps made own =
    by (request_of n b) refl made
  where
    by : (o : Option Request) → request_of n b ≡ o → option_map (incoming n) o ≡ Some q
        → IsOwnItem (told ++ reply_entry at x q r ∷ []) after d (other_side at) (reply_item q r)
    by None e f = absurd cc
    by (Some p) e f =
        subst (λ z. IsOwnItem (told ++ reply_entry at x z r ∷ []) after d (other_side at)
        (reply_item z r)) (same-some (incoming n p) q f)
        (asked-reply told b after x c d at n p r ends number keeps e own)
own-reply told b after {x} c {d} at (Raw bytes) q r ends number keeps made own =
    by (raw_message bytes) made
  where
    by : (o : Result Message RawFault) → raw_request o ≡ Some q
        → IsOwnItem (told ++ reply_entry at x q r ∷ []) after d (other_side at) (reply_item q r)
    by (Err fault) f = absurd cc
    by (Ok p) f = asks_by (is_request p) f
      where
        asks_by : (t : Bool) → cond t (Some (incoming_raw p)) None ≡ Some q
            → IsOwnItem (told ++ reply_entry at x q r ∷ []) after d (other_side at) (reply_item q r)
        asks_by false f = absurd cc
        asks_by true f =
            subst (λ z. IsOwnItem (told ++ reply_entry at x z r ∷ []) after d (other_side at)
            (reply_item z r)) (same-some (incoming_raw p) q f)
            (raw-reply told after x c d at _ p r ends number own.0 own.1)
own-reply told b after c at (Reply n result payload) q r ends number keeps made own = absurd cc
own-reply told b after c at (RawReply label kind result payload) q r ends number keeps made
    own = absurd cc
