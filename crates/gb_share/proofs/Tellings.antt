-- All lines have their places: what is written of them is told.
use Rattle.std.proofs.Common.{◌≡◌, ℕ, Bool, true, false, List, [], ◌∷◌, ◌++◌, length, refl, sym}
use Rattle.std.proofs.Common.{ap, append_assoc, ◌∙◌, arith, subst}
use Rattle.std.proofs.lemmas.Bool.Decides.{nat_tests}
use Rattle.std.proofs.lemmas.List.{append-nil}
use Rattle.std.specs.String.{string_bytes}
use Rattle.gb_base.specs.declared.event.Event.{Event}
use Rattle.gb_base.specs.declared.parts.Asked.{Asked}
use Rattle.gb_formats.specs.Orders.{AreThreaded, Merged, Place, is_by, merge}
use Rattle.gb_formats.specs.ShowTexts.{order_text}
use Rattle.gb_machine.specs.AskingEvents.{asks}
use Rattle.gb_machine.specs.Journal.{after}
use Rattle.gb_machine.specs.Shared.{FullPlaces, IsTold, done_in, report_merged}
use Rattle.gb_machine.specs.Shared.{state_after, tickets_of}
use Rattle.gb_machine.specs.State.{State, first_state}
use Rattle.gb_share.specs.Fulls.{AreExact, AskMost, DoAsk, own_lines}
use Rattle.gb_share.specs.Placing.{HasLed, IsReady, left}
use Rattle.gb_share.specs.declared.merging.Merging.{Merging}
use Rattle.gb_share.proofs.Queues.{times_asked}
use Rattle.gb_share.proofs.ZerosFirst.{ZerosFirst, high_both, leading_high, own_front}
use Rattle.gb_share.proofs.ZerosFirst.{threaded_high, zeros_merged}

nothing_left : (ms : List Merged) → IsReady ms → done_in ms ≡ [] → ms ≡ []
nothing_left [] ready done = refl
nothing_left ((a, true) ∷ ms) ready done = absurd cc
nothing_left ((a, false) ∷ ms) ready done = absurd cc

asks_at : (all : List Event) (front back : List Merged) (a : Asked)
    → DoAsk all (front ++ (a, true) ∷ back) → (asks a.event ≡ true) × AskMost all
asks_at all [] back a each = each.0 refl
asks_at all (m ∷ ms) back a each = asks_at all ms back a each.1

pub told : (hex : Bool) (asked : List Asked) (x : Merging) (last : State) (written : List ℕ)
    → HasLed asked x [] last → x.hex ≡ hex
    → written ≡ order_text x.order.items ++ (string_bytes x.text ++ tickets_of last)
    → IsTold hex asked written
told hex asked x last written h same is = record {
  order = x.order.items;
  fair = record {
    opening = h.threaded.opening;
    leading = h.threaded.leading;
    threads = h.threaded.threads;
    order_is = h.threaded.order_is;
    opens = h.threaded.opens;
    leads = h.threaded.leads;
    follow = subst (λ (o : List Place). AreThreaded 0 o) (append-nil h.threaded.threads)
        (h.threaded.follow [] tt);
    each = λ who.
        (let counts = h.stands.counts who in
        let none = ap (λ (ms : List Merged). length ms) (empty who) in
        let own = times_asked who asked in omega arith);
  };
  full = subst FullPlaces (sym merged) fulls;
  written_is = is ∙ ap (λ l. order_text x.order.items ++ l)
      (ap (λ l. l ++ tickets_of last) (sym reported)
      ∙ (ap (λ b. report_merged b first_state (merge asked x.order.items) ++ tickets_of last) same
      ∙ ap (λ s. report_merged hex first_state (merge asked x.order.items) ++ tickets_of s)
      (sym ended)));
}
  where
    empty : (r : ℕ) → left x r ≡ []
    empty r = nothing_left (left x r) (h.ready r) (h.stands.ran r)

    merged : merge asked x.order.items ≡ h.stands.placed
    merged =
        ap (λ (o : List Place). merge asked o) (sym (append-nil x.order.items))
        ∙ (h.stands.leads [] ∙ append-nil h.stands.placed)

    zeros : ZerosFirst h.stands.placed
    zeros = subst ZerosFirst
        (ap (λ (o : List Place). merge asked o)
        (sym (append_assoc h.threaded.opening h.threaded.leading h.threaded.threads)
        ∙ sym h.threaded.order_is) ∙ merged)
        (zeros_merged asked h.threaded.opening (h.threaded.leading ++ h.threaded.threads)
        h.threaded.opens
        (high_both h.threaded.leading h.threaded.threads
        (leading_high 1 h.threaded.leading (omega arith) h.threaded.leads)
        (threaded_high 0 h.threaded.threads
        (subst (λ (o : List Place). AreThreaded 0 o) (append-nil h.threaded.threads)
        (h.threaded.follow [] tt)))))

    exact : AreExact (own_lines 0 h.stands.placed)
    exact = subst AreExact
        (ap (λ l. own_lines 0 h.stands.placed ++ l) h.none
        ∙ append-nil (own_lines 0 h.stands.placed)) h.stands.exact

    fulls : FullPlaces h.stands.placed
    fulls = record {
      opening = λ front back a full is by.
          (let mine : is_by 0 a ≡ true = grind (arith, nat_tests) in
          let own = own_front h.stands.placed front back (a, full) zeros is mine in
          exact front own.0 a full own.1);
      asking = λ front back a is.
          (let asking = asks_at h.stands.all front back a
          (subst (λ (ms : List Merged). DoAsk h.stands.all ms) is h.stands.asking) in (
            asking.0,
            subst AskMost
                (sym h.stands.all_is ∙ append-nil (done_in h.stands.placed)) asking.1,
          ));
      going_on = h.stands.going;
    }

    reported : report_merged x.hex first_state (merge asked x.order.items) ≡ string_bytes x.text
    reported =
        ap (λ (ms : List Merged). report_merged x.hex first_state ms)
        (merged ∙ sym (append-nil h.stands.placed))
        ∙ (h.stands.reports [] ∙ append-nil (string_bytes x.text))

    ended : state_after (merge asked x.order.items) ≡ last
    ended =
        ap (λ (ms : List Merged). after first_state (done_in ms))
        (merged ∙ sym (append-nil h.stands.placed))
        ∙ (h.stands.ends [] ∙ h.stands.legal)
