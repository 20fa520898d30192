-- What is seen of the live connections where a request is made on one.
use Rattle.std.proofs.Common.{◌≡◌, ℕ, Bool, true, false, cond, not, Some}
use Rattle.std.proofs.Common.{is_some, option_and_then, Ok, Err, List, [], ◌∷◌, ◌++◌, refl}
use Rattle.std.proofs.Common.{sym, ap, ◌∙◌, subst}
use Rattle.std.specs.List.{find}
use Rattle.std.specs.Map.{lookup, set_value}
use Rattle.std.specs.Prelude.{nat_eq}
use Rattle.indexmap.specs.IndexMap.{get}
use Rattle.gb_base.specs.declared.end.End.{End}
use Rattle.gb_base.specs.declared.end.Side.{Side}
use Rattle.gb_bus.proofs.Entries.{set-here}
use Rattle.std.proofs.lemmas.Map.Steps.{set_value_same}
use Rattle.gb_bus.proofs.Opening.{same-ok}
use Rattle.gb_bus.proofs.Keeping.{kept-set}
use Rattle.gb_bus.proofs.SeeingChanges.{changes-one, finds, next-seen}
use Rattle.gb_bus.proofs.SeeingQueues.{puts}
use Rattle.gb_bus.proofs.SeeingSides.{put-back, side-changes}
use Rattle.gb_bus.specs.Connection.{Connection}
use Rattle.gb_bus.specs.Index.{Ends, MapsAgree, Live}
use Rattle.gb_bus.specs.Parts.{next_of, numbered, put, queue_of, with_queue}
use Rattle.gb_bus.specs.Seen.{seen, seen_in_order}
use Rattle.gb_bus.specs.Sides.{Asks, AsksIn, HasEndsOf, LabelsIn, LabelsOn}
use Rattle.gb_bus.specs.declared.answers.SendFault.{SendFault}
use Rattle.gb_bus.specs.declared.answers.SendFault.TheVariants as fault
use Rattle.gb_bus.specs.declared.connection.Connection as code
use Rattle.gb_bus.specs.declared.queue.Item.{Item}
use Rattle.gb_bus.specs.declared.queue.Item.TheVariants as item
use Rattle.gb_machine.specs.Bus.{other_side}
use Rattle.gb_ops.specs.Calls.{Begins}

-- the identifier of the request
labels : (live live' : Live) (ends : Ends) (q : List End) (k : ℕ) (s : Side) (n deadline : ℕ)
    (oneway : Bool) (label : ℕ) (x y : code.Connection) → MapsAgree live ends q
    → get nat_eq live k ≡ Some x → live'.entries ≡ set_value (nat_eq k) live.entries y
    → LabelsOn (seen 0 x) (seen 0 y) s n deadline oneway (Ok label)
    → LabelsIn (seen_in_order live.entries) (seen_in_order live'.entries) k s n deadline oneway
    label
labels live live' ends q k s n deadline true label x y kept found now h =
    (same-ok label 0 (Ok label) refl h.0, put-back live live' ends q k x y kept found now h.1)
labels live live' ends q k s n deadline false label x y kept found now h =
    side-changes live live' ends q (seen_in_order live.entries) k s x y
    (λ v u. Begins v u n deadline label) kept refl found now h

-- ---- it isn't made

pub asks-not : (live live' : Live) (ends : Ends) (q : List End) (xs : List Connection) (k : ℕ)
    (s : Side) (n kind : ℕ) (payload : List ℕ) (deadline : ℕ) (oneway : Bool) (e : SendFault)
    (x y : code.Connection) → MapsAgree live ends q → seen_in_order live.entries ≡ xs
    → get nat_eq live k ≡ Some x → live'.entries ≡ set_value (nat_eq k) live.entries y
    → LabelsOn (seen 0 x) (seen 0 y) s n deadline oneway (Err e)
    → AsksIn xs (seen_in_order live'.entries) k s n kind payload deadline oneway (Err e)
asks-not live live' ends q xs k s n kind payload deadline oneway e x y kept view found now did =
    by e oneway did
  where
    there : find (numbered k) xs ≡ Some (seen k x)
    there = finds live xs k (Some x) view found

    by : (f : SendFault) → (b : Bool) → LabelsOn (seen 0 x) (seen 0 y) s n deadline b (Err f)
        → AsksIn xs (seen_in_order live'.entries) k s n kind payload deadline b (Err f)
    by fault.NoLabel true h = absurd (cc h.0)
    by fault.NoLabel false h = (
      record {
        live = ap is_some there;
        needs = refl;
        spent = ap (option_and_then (next_of s)) there ∙ sym (next-seen k x s) ∙ h.0;
      },
      put-back live live' ends q k x y kept found now h.1 ∙ view,
    )
    by fault.NoConnection true h = absurd (cc h.0)
    by fault.NoConnection false h = absurd h
    by (fault.Memory m) b h = ap is_some there

-- ---- the request is made

-- what the connection is then
pub record Made (live live' : Live) (ends : Ends) (q : List End) (k : ℕ) (s : Side)
    (n deadline : ℕ) (oneway : Bool) (label : ℕ) (x y : code.Connection) : Type 0 where
  pub found : get nat_eq live k ≡ Some x
  pub there : get nat_eq live' k ≡ Some y
  pub wire : y.wired ≡ x.wired
  pub stays : MapsAgree live' ends q
  pub labels_are : LabelsIn (seen_in_order live.entries) (seen_in_order live'.entries) k s n
      deadline oneway label

pub made : (live live' : Live) (ends : Ends) (q : List End) (k : ℕ) (s : Side) (n deadline : ℕ)
    (oneway : Bool) (label : ℕ) (x y : code.Connection) → MapsAgree live ends q
    → get nat_eq live k ≡ Some x → live'.entries ≡ set_value (nat_eq k) live.entries y
    → LabelsOn (seen 0 x) (seen 0 y) s n deadline oneway (Ok label)
    → HasEndsOf (seen 0 x) (seen 0 y) → Made live live' ends q k s n deadline oneway label x y
made live live' ends q k s n deadline oneway label x y kept found now did same = record {
  found = found;
  there = ap (lookup (nat_eq k)) now ∙ set-here k live.entries x y found;
  wire = same.wire;
  stays = kept-set live live' ends q k x y found now same kept;
  labels_are = labels live live' ends q k s n deadline oneway label x y kept found now did;
}

-- a message to a connection that isn't wired is lost
lost : (c : Connection) (s : Side) (i : Item) → c.wired ≡ false → c ≡ put s i c
lost c s i loose = sym (ap (λ b. cond b (with_queue s (queue_of s c ++ i ∷ []) c) c) loose)

pub asks-lost : (live live' : Live) (ends : Ends) (q : List End) (xs : List Connection) (k : ℕ)
    (s : Side) (n kind : ℕ) (payload : List ℕ) (deadline : ℕ) (oneway : Bool) (label : ℕ)
    (x y : code.Connection) → Made live live' ends q k s n deadline oneway label x y
    → seen_in_order live.entries ≡ xs → y.wired ≡ false
    → Asks xs (seen_in_order live'.entries) k s n kind payload deadline oneway label true
asks-lost live live' ends q xs k s n kind payload deadline oneway label x y m view loose =
    subst
    (λ ys. Asks ys (seen_in_order live'.entries) k s n kind payload deadline oneway label true)
    view (record {
      connection = seen k x;
      found = finds live (seen_in_order live.entries) k (Some x) refl m.found;
      lost_is = sym (ap not (sym m.wire ∙ loose));
      begun = seen_in_order live'.entries;
      labels = m.labels_are;
      waits = changes-one live' live' ends q k y y (put (other_side s) message) m.stays m.there
          (sym (set_value_same (nat_eq k) live'.entries y m.there))
          (lost (seen k y) (other_side s) message loose);
    })
  where
    message : Item
    message = item.Ask n label kind payload

-- it waits
pub asks-waits : (live live' made : Live) (ends : Ends) (q : List End) (xs : List Connection)
    (k : ℕ) (s : Side) (n kind : ℕ) (payload : List ℕ) (deadline : ℕ) (oneway : Bool)
    (label : ℕ) (x y z : code.Connection)
    → Made live made ends q k s n deadline oneway label x y
    → seen_in_order live.entries ≡ xs → y.wired ≡ true
    → live'.entries ≡ set_value (nat_eq k) made.entries z
    → seen 0 z ≡ put (other_side s) (item.Ask n label kind payload) (seen 0 y)
    → Asks xs (seen_in_order live'.entries) k s n kind payload deadline oneway label false
asks-waits live live' made ends q xs k s n kind payload deadline oneway label x y z m view w now
    did =
    subst
    (λ ys. Asks ys (seen_in_order live'.entries) k s n kind payload deadline oneway label false)
    view (record {
      connection = seen k x;
      found = finds live (seen_in_order live.entries) k (Some x) refl m.found;
      lost_is = sym (ap not (sym m.wire ∙ w));
      begun = seen_in_order made.entries;
      labels = m.labels_are;
      waits = puts made live' ends q (seen_in_order made.entries) k y z (other_side s)
          (item.Ask n label kind payload) m.stays refl m.there now did;
    })
