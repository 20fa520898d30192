-- What was told, and what happened in it: laws see no line that only says that something is done
-- or settled.
use Rattle.std.proofs.Common.{Bool, List, ap, cond, false, refl, subst, sym, true, ℕ, [], ◌+◌, ◌∙◌}
use Rattle.std.proofs.Common.{◌∷◌, ◌≡◌, ◌≤◌}
use Rattle.std.specs.Prelude.{◌==◌}
use Rattle.gb_base.specs.declared.end.Side.{Side}
use Rattle.gb_base.specs.declared.end.Side.TheVariants as side
use Rattle.gb_base.specs.declared.entry.Entry.{Entry}
use Rattle.gb_base.specs.declared.entry.ConnState.TheVariants as state
use Rattle.gb_base.specs.declared.entry.Entry.TheVariants as entry
use Rattle.gb_machine.specs.Bus.{Ask, Bus, Connection, Item, Raw, RawReply, Reply}
use Rattle.gb_machine.specs.LawsEnds.{EndOnce, EndsTold, is_end_of, is_reply_of}
use Rattle.gb_machine.specs.LawsHotPlug.{HasOwnItems, HaveOwnItems, IsOwnItem, told_since}
use Rattle.gb_machine.specs.{Holding.held_on, Members.IsIn, Members.times, Runs.happenings}
use Rattle.gb_machine.specs.{Runs.is_happening, State.Held, State.State}
use Rattle.gb_invariants.proofs.Lists.{each-weaker, filter-in, in-filter}
use Rattle.gb_laws.proofs.runs.AllRuns.{SeesHappenings}

-- ---- members

-- what happened was told
pub happened-told : (e : Entry) (told : List Entry) → IsIn e (happenings told) → IsIn e told
happened-told e told i = (in-filter is_happening told e i).0

-- what was told, and is no such line, happened
pub told-happened : (e : Entry) (told : List Entry) → is_happening e ≡ true → IsIn e told
    → IsIn e (happenings told)
told-happened e told is i = filter-in is_happening told e i is

-- ---- counts

-- a test that no such line passes counts the same
times-happened : (test : Entry → Bool) → ((e : Entry) → is_happening e ≡ false → test e ≡ false)
    → (told : List Entry) → times test (happenings told) ≡ times test told
times-happened test none [] = refl
times-happened test none (e ∷ told) = by (is_happening e) refl (times-happened test none told)
  where
    by : (t : Bool) → is_happening e ≡ t → times test (happenings told) ≡ times test told
        → times test (cond t (e ∷ happenings told) (happenings told))
        ≡ cond (test e) (times test told + 1) (times test told)
    by true is h = ap (λ n. cond (test e) (n + 1) n) h
    by false is h = h ∙ ap (λ t. cond t (times test told + 1) (times test told)) (sym (none e is))

no-end : (n : ℕ) (e : Entry) → is_happening e ≡ false → is_end_of n e ≡ false
no-end n (entry.Ended m how read) is = absurd cc
no-end n _ is = refl

no-reply : (n : ℕ) (e : Entry) → is_happening e ≡ false → is_reply_of n e ≡ false
no-reply n (entry.Replied number from to result size bytes) is = absurd cc
no-reply n _ is = refl

-- ---- since a connection was opened

since-happened : (k : ℕ) (told : List Entry)
    → told_since k (happenings told) ≡ happenings (told_since k told)
since-happened k [] = refl
since-happened k (e ∷ told) = by e (since-happened k told)
  where
    by : (e : Entry) → told_since k (happenings told) ≡ happenings (told_since k told)
        → told_since k (happenings (e ∷ told)) ≡ happenings (told_since k (e ∷ told))
    by (entry.Connection j ap_ i c state.Opening) h = opened (j == k)
      where
        opened : (t : Bool) → cond t (happenings told) (told_since k (happenings told))
            ≡ happenings (cond t told (told_since k told))
        opened true = refl
        opened false = h
    by (entry.Connection j ap_ i c state.Open) h = h
    by (entry.Connection j ap_ i c state.Closing) h = h
    by (entry.Connection j ap_ i c state.Closed) h = h
    by (entry.Connection j ap_ i c state.Failed) h = h
    by _ h = h

-- ---- items

own-there : (told : List Entry) (b : Bus) (c : Connection) (at : Side) (item : Item)
    → IsOwnItem told b c at item → IsOwnItem (happenings told) b c at item
own-there told b c at (Ask n) h = (h.0, h.1, h.2, h.3, told-happened _ told refl h.4)
own-there told b c at (Reply n result payload) h =
    (h.0, h.1, h.2, h.3, told-happened _ told refl h.4)
own-there told b c at (Raw bytes) h =
    (h.0, subst (IsIn _) (sym (since-happened c.number told)) (told-happened _ _ refl h.1))
own-there told b c at (RawReply label kind result payload) h =
    (h.0, subst (IsIn _) (sym (since-happened c.number told)) (told-happened _ _ refl h.1))

own-back : (told : List Entry) (b : Bus) (c : Connection) (at : Side) (item : Item)
    → IsOwnItem (happenings told) b c at item → IsOwnItem told b c at item
own-back told b c at (Ask n) h = (h.0, h.1, h.2, h.3, happened-told _ told h.4)
own-back told b c at (Reply n result payload) h =
    (h.0, h.1, h.2, h.3, happened-told _ told h.4)
own-back told b c at (Raw bytes) h =
    (h.0, happened-told _ _ (subst (IsIn _) (since-happened c.number told) h.1))
own-back told b c at (RawReply label kind result payload) h =
    (h.0, happened-told _ _ (subst (IsIn _) (since-happened c.number told) h.1))

owns : (told more : List Entry) (s : State)
    → ((c : Connection) (at : Side) (item : Item) → IsOwnItem told s.bus c at item
    → IsOwnItem more s.bus c at item) → HaveOwnItems told s → HaveOwnItems more s
owns told more s f h =
    each-weaker (HasOwnItems told s) (HasOwnItems more s) s.bus.connections (λ c x. record {
      to_ap = each-weaker _ _ c.to_ap (f c side.Ap) x.to_ap;
      to_far = each-weaker _ _ c.to_far (f c side.Far) x.to_far;
      held = each-weaker _ _ (held_on c.number s.held) (λ (y : Held). f c side.Far y.item) x.held;
    }) h

-- ---- laws that read what was told

pub ends-seen : SeesHappenings EndOnce
ends-seen = record {
  there = λ told s h. record {
    outcomes = h.outcomes;
    ends = λ n. subst (λ k. k ≤ 1) (sym (times-happened (is_end_of n) (no-end n) told)) (h.ends n);
    replies = λ n. subst (λ k. k ≤ 1) (sym (times-happened (is_reply_of n) (no-reply n) told))
        (h.replies n);
  };
  back = λ told s h. record {
    outcomes = h.outcomes;
    ends = λ n. subst (λ k. k ≤ 1) (times-happened (is_end_of n) (no-end n) told) (h.ends n);
    replies = λ n. subst (λ k. k ≤ 1) (times-happened (is_reply_of n) (no-reply n) told)
        (h.replies n);
  };
}

pub told-seen : SeesHappenings EndsTold
told-seen = record {
  there = λ told s h. record {
    said = λ n how i other. let w = h.said n how i other in (w.0, told-happened _ told refl w.1);
    kept = λ n how read i. h.kept n how read (happened-told _ told i);
    made = h.made;
  };
  back = λ told s h. record {
    said = λ n how i other. let w = h.said n how i other in (w.0, happened-told _ told w.1);
    kept = λ n how read i. h.kept n how read (told-happened _ told refl i);
    made = h.made;
  };
}

pub items-seen : SeesHappenings HaveOwnItems
items-seen = record {
  there = λ told s h. owns told (happenings told) s (own-there told s.bus) h;
  back = λ told s h. owns (happenings told) told s (own-back told s.bus) h;
}
