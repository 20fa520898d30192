-- Orders that grow.
use Rattle.std.proofs.Common.{◌≡◌, ℕ, zero, suc, ◌≤◌, Bool, true, false, List, [], ◌∷◌}
use Rattle.std.proofs.Common.{◌++◌, append_assoc, refl, sym, ap, ◌∙◌, arith, subst, replicate}
use Rattle.std.proofs.lemmas.List.{append-nil}
use Rattle.gb_formats.specs.Orders.{AreLeading, AreOpening, AreThreaded, Place}
use Rattle.gb_share.specs.Placing.{GrowsFull, IsLed, IsThreaded}

-- ---- full places of one requester

replicate_end : {A : Type 0} (n : ℕ) (x : A) → replicate n x ++ x ∷ [] ≡ replicate (suc n) x
replicate_end zero x = refl
replicate_end (suc n) x = ap (λ l. x ∷ l) (replicate_end n x)

pub grows_none : (who : ℕ) (o : List Place) → GrowsFull who o o
grows_none who o = record { count = zero; is = sym (append-nil o) }

pub grows_more : (who : ℕ) (o p q : List Place) → GrowsFull who o p → q ≡ p ++ (who, true) ∷ []
    → GrowsFull who o q
grows_more who o p q g is = record {
  count = suc g.count;
  is = is ∙ (ap (λ l. l ++ (who, true) ∷ []) g.is
      ∙ (append_assoc o (replicate g.count (who, true)) ((who, true) ∷ [])
      ∙ ap (λ l. o ++ l) (replicate_end g.count (who, true))));
}

-- ---- the opening

pub opening_more : (o : List Place) (f : Bool) → AreOpening o → AreOpening (o ++ (0, f) ∷ [])
opening_more [] f opens = (refl, tt)
opening_more (p ∷ ps) f opens = (opens.0, opening_more ps f opens.1)

-- ---- full places in front

leads_less : (r : ℕ) (more : List Place) → AreLeading (suc r) more → AreLeading r more
leads_less r [] leads = tt
leads_less r (p ∷ ps) leads = (leads.0, (let low = leads.1 in omega arith), leads.2)

leads_fulls : (r n : ℕ) (more : List Place) → AreLeading (suc r) more
    → AreLeading r (replicate n (r, true) ++ more)
leads_fulls r zero more leads = leads_less r more leads
leads_fulls r (suc n) more leads = (refl, omega arith, leads_fulls r n more leads)

pub led_first : (o : List Place) → AreOpening o → IsLed 1 o
led_first o opens = record {
  opening = o;
  leading = [];
  order_is = sym (append-nil o);
  opens = opens;
  leads = λ more leads. leads;
}

pub led_more : (r : ℕ) (o p : List Place) → IsLed r o → GrowsFull r o p → IsLed (suc r) p
led_more r o p led g = record {
  opening = led.opening;
  leading = led.leading ++ replicate g.count (r, true);
  order_is = g.is ∙ (ap (λ l. l ++ replicate g.count (r, true)) led.order_is
      ∙ append_assoc led.opening led.leading (replicate g.count (r, true)));
  opens = led.opens;
  leads = λ more leads.
      subst (λ (l : List Place). AreLeading 1 l)
      (sym (append_assoc led.leading (replicate g.count (r, true)) more))
      (led.leads (replicate g.count (r, true) ++ more) (leads_fulls r g.count more leads));
}

pub led_last : (r : ℕ) (o : List Place) → IsLed r o → IsThreaded o
led_last r o led = record {
  opening = led.opening;
  leading = led.leading;
  threads = [];
  last = 0;
  order_is = led.order_is ∙ sym (append-nil (led.opening ++ led.leading));
  opens = led.opens;
  leads = subst (λ (l : List Place). AreLeading 1 l) (append-nil led.leading) (led.leads [] tt);
  follow = λ more follow. follow;
}

-- ---- threads

follows_fulls : (r n : ℕ) (more : List Place) → 1 ≤ r → AreThreaded r more
    → AreThreaded r (replicate n (r, true) ++ more)
follows_fulls r zero more some follow = follow
follows_fulls r (suc n) more some follow =
    (some, (λ full. refl), follows_fulls r n more some follow)

pub threaded_more : (r : ℕ) (o p q : List Place) → 1 ≤ r → IsThreaded o
    → p ≡ o ++ (r, false) ∷ [] → GrowsFull r p q → IsThreaded q
threaded_more r o p q some t is g = record {
  opening = t.opening;
  leading = t.leading;
  threads = t.threads ++ (r, false) ∷ replicate g.count (r, true);
  last = r;
  order_is = g.is ∙ (ap (λ l. l ++ replicate g.count (r, true)) is
      ∙ (append_assoc o ((r, false) ∷ []) (replicate g.count (r, true))
      ∙ (ap (λ l. l ++ (r, false) ∷ replicate g.count (r, true)) t.order_is
      ∙ append_assoc (t.opening ++ t.leading) t.threads
      ((r, false) ∷ replicate g.count (r, true)))));
  opens = t.opens;
  leads = t.leads;
  follow = λ more follow.
      subst (λ (l : List Place). AreThreaded 0 l)
      (sym (append_assoc t.threads ((r, false) ∷ replicate g.count (r, true)) more))
      (t.follow ((r, false) ∷ replicate g.count (r, true) ++ more)
      (some, (λ full. absurd cc), follows_fulls r g.count more some follow));
}
