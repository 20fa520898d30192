-- What is seen of the live connections where a message comes to one or is taken from it.
use Rattle.std.proofs.Common.{◌≡◌, ℕ, Bool, true, false, cond, Option, Some, None}
use Rattle.std.proofs.Common.{option_and_then, List, [], ◌∷◌, ◌++◌, refl, ap, ◌∙◌}
use Rattle.std.specs.Map.{set_value}
use Rattle.std.specs.Prelude.{nat_eq}
use Rattle.indexmap.specs.IndexMap.{get}
use Rattle.gb_base.specs.declared.end.End.{End}
use Rattle.gb_base.specs.declared.end.Side.{Side}
use Rattle.gb_base.specs.declared.end.Side.TheVariants as side
use Rattle.gb_bus.proofs.SeeingChanges.{changes-one, filled, finds}
use Rattle.gb_bus.proofs.SeeingSides.{put-back}
use Rattle.gb_bus.specs.Connection.{Connection}
use Rattle.gb_bus.specs.Index.{Ends, Live, MapsAgree}
use Rattle.gb_bus.specs.Parts.{TakesFront, TakesFrontAs, front_in, numbered, put, queue_of}
use Rattle.gb_bus.specs.Parts.{with_queue, without_front}
use Rattle.gb_bus.specs.Seen.{seen, seen_in_order}
use Rattle.gb_bus.specs.declared.connection.Connection as code
use Rattle.gb_bus.specs.declared.queue.Item.{Item}
use Rattle.gb_machine.specs.Lists.{at_first, first}

-- whichever number a connection has, it gets the message
filled-put : (k : ℕ) (s : Side) (item : Item) (c : Connection)
    → filled k (put s item c) ≡ put s item (filled k c)
filled-put k s item c = by s c.wired
  where
    by : (t : Side) (w : Bool)
        → filled k (cond w (with_queue t (queue_of t c ++ item ∷ []) c) c)
        ≡ cond w (with_queue t (queue_of t (filled k c) ++ item ∷ []) (filled k c)) (filled k c)
    by side.Ap true = refl
    by side.Far true = refl
    by side.Ap false = refl
    by side.Far false = refl

pub puts : (live live' : Live) (ends : Ends) (q : List End) (xs : List Connection) (k : ℕ)
    (x y : code.Connection) (s : Side) (item : Item) → MapsAgree live ends q
    → seen_in_order live.entries ≡ xs → get nat_eq live k ≡ Some x
    → live'.entries ≡ set_value (nat_eq k) live.entries y → seen 0 y ≡ put s item (seen 0 x)
    → seen_in_order live'.entries ≡ at_first (numbered k) (put s item) xs
puts live live' ends q xs k x y s item kept view found now did =
    changes-one live live' ends q k x y (put s item) kept found now
    (ap (filled k) did ∙ filled-put k s item (seen 0 x))
    ∙ ap (at_first (numbered k) (put s item)) view

-- and loses its front message
filled-taken : (k : ℕ) (s : Side) (c : Connection)
    → filled k (without_front s c) ≡ without_front s (filled k c)
filled-taken k side.Ap c = refl
filled-taken k side.Far c = refl

queue-filled : (k : ℕ) (s : Side) (c : Connection) → queue_of s (filled k c) ≡ queue_of s c
queue-filled k side.Ap c = refl
queue-filled k side.Far c = refl

-- the front message of a connection
front-is : (live : Live) (xs : List Connection) (k : ℕ) (x : code.Connection) (s : Side)
    → seen_in_order live.entries ≡ xs → get nat_eq live k ≡ Some x
    → front_in k s xs ≡ first (queue_of s (seen 0 x))
front-is live xs k x s view found =
    ap (option_and_then (λ c. first (queue_of s c))) (finds live xs k (Some x) view found)
    ∙ ap first (queue-filled k s (seen 0 x))

pub takes : (live live' : Live) (ends : Ends) (q : List End) (xs : List Connection) (k : ℕ)
    (x y : code.Connection) (s : Side) (result : Option Item) → MapsAgree live ends q
    → seen_in_order live.entries ≡ xs → get nat_eq live k ≡ Some x
    → live'.entries ≡ set_value (nat_eq k) live.entries y
    → TakesFront (seen 0 x) (seen 0 y) s result
    → TakesFrontAs xs (seen_in_order live'.entries) k s result
takes live live' ends q xs k x y s None kept view found now h = (
  front-is live xs k x s view found ∙ h.0,
  put-back live live' ends q k x y kept found now h.1 ∙ view,
)
takes live live' ends q xs k x y s (Some item) kept view found now h = (
  front-is live xs k x s view found ∙ h.0,
  changes-one live live' ends q k x y (without_front s) kept found now
      (ap (filled k) h.1 ∙ filled-taken k s (seen 0 x))
      ∙ ap (at_first (numbered k) (without_front s)) view,
)

pub takes-nowhere : (live : Live) {ys : List Connection} (xs : List Connection) (k : ℕ) (s : Side)
    → seen_in_order live.entries ≡ xs → get nat_eq live k ≡ None → ys ≡ xs
    → TakesFrontAs xs ys k s None
takes-nowhere live xs k s view none same =
    (ap (option_and_then (λ c. first (queue_of s c))) (finds live xs k None view none), same)
