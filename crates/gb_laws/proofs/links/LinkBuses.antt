-- The facts of the application processor's connections go over what becomes of the bus.
use Rattle.std.proofs.Common.{Bool, List, None, Some, ap, arith, false, inl, inr, refl, subst, sym}
use Rattle.std.proofs.Common.{true, ℕ, ⊎_elim, [], ◌++◌, ◌+◌, ◌∙◌, ◌∷◌, ◌≡◌, ◌≤◌}
use Rattle.std.specs.List.{find}
use Rattle.std.specs.Prelude.{◌==◌}
use Rattle.gb_base.specs.declared.end.End.TheVariants as end
use Rattle.gb_base.specs.declared.entry.ConnState.TheVariants as state
use Rattle.gb_base.specs.declared.interface.{Interface.Interface, Link.Link}
use Rattle.gb_base.specs.declared.steps.SequenceStep.{SequenceStep}
use Rattle.gb_formats.specs.UartDevice.{most_credits}
use Rattle.gb_machine.specs.Bus.{Bus, Connection, has_number}
use Rattle.gb_machine.specs.Host.{Host, is_link, with_new_link}
use Rattle.gb_machine.specs.Turns.{Act, Asking, Making}
use Rattle.gb_machine.specs.Wiring.{attached, detached, new_connection, next_connection}
use Rattle.gb_machine.specs.{Lists.at_first, Members.IsIn, SequenceSteps.asks_control}
use Rattle.gb_invariants.proofs.Lists.{each-from, found-in, in-at_first, in-front, in-pushed}
use Rattle.gb_invariants.proofs.Lists.{in-without, two-pushed}
use Rattle.gb_invariants.proofs.{Awaiting.none-some, Awaiting.not-both, Outcomes.is-same}
use Rattle.gb_invariants.proofs.{Outcomes.same-number}
use Rattle.gb_laws.proofs.links.LinkDue.{making-asks}
use Rattle.gb_laws.proofs.links.Links.{ArePending, DrainsPlain, HostFits, IsDue, IsFree, IsKnown}
use Rattle.gb_laws.proofs.links.Links.{IsLinkBefore, IsMaking, IsNumbered, IsPresent, IsWaiting}
use Rattle.gb_laws.proofs.links.Links.{LinksFit}
use Rattle.gb_laws.proofs.links.Links.{connection, control, leaving, linked, supervisory}
use Rattle.gb_laws.proofs.links.LinkLists.{is-link, link-is}
pub use Rattle.gb_laws.proofs.links.LinkFrom.{Linked}

-- ---- an act is done

known-rest : (c : Connection) {ls : List Link} (x : Act) {rest : List Act}
    → (Act.Leave c.number ≡ x → ⊥) → IsKnown c ls (x ∷ rest) → IsKnown c ls rest
known-rest c x other (supervisory e) = supervisory e
known-rest c x other (linked l i of) = linked l i of
known-rest c x other (leaving (inl e)) = absurd (other e)
known-rest c x other (leaving (inr i)) = leaving i

-- one that gives up no connection
pub linked-rest : (b : Bus) (h : Host) (x : Act) (rest : List Act) → ((k : ℕ) → Act.Leave k ≡ x → ⊥)
    → Linked b h (x ∷ rest) → Linked b h rest
linked-rest b h x rest other f = record {
  host = f.host;
  pending = f.pending.1;
  known = λ c live. known-rest c x (other c.number) (f.known c live);
  svc = f.svc;
  made = f.made;
}

-- a connection is given up
pub linked-left : (b : Bus) (h : Host) (k : ℕ) (rest : List Act) → Linked b h (Act.Leave k ∷ rest)
    → Linked (detached k b) h rest
linked-left b h k rest f = record {
  host = record {
    links = record {
      rise = f.host.links.rise;
      numbered = f.host.links.numbered;
      waiting = f.host.links.waiting;
      deaf = λ l c i live. f.host.links.deaf l c i
          (in-without (has_number k) b.connections c live).0;
      draining = f.host.links.draining;
    };
    interfaces = f.host.interfaces;
    differ = f.host.differ;
    present = f.host.present;
  };
  pending = f.pending.1;
  known = λ c live. let w = in-without (has_number k) b.connections c live in
      known-rest c (Act.Leave k)
      (λ e. not-both (c.number == k) (ap (λ n. n == k) (same-leave c.number k e) ∙ is-same k) w.1)
      (f.known c w.0);
  svc = λ c live. f.svc c (in-without (has_number k) b.connections c live).0;
  made = f.made;
}
  where
    same-leave : (n j : ℕ) → Act.Leave n ≡ Act.Leave j → n ≡ j
    same-leave n j e = cc

-- ---- a side is closed

-- where the application processor's side of a connection is closed
pub linked-shut : (b after : Bus) (h : Host) (k : ℕ) (rest : List Act) → after.made ≡ b.made
    → after.connections ≡ at_first (has_number k) (λ c. record c { shut = true }) b.connections
    → Linked b h (Act.Shut k ∷ rest) → Linked after h rest
linked-shut b after h k rest made same f = record {
  host = record {
    links = record {
      rise = f.host.links.rise;
      numbered = λ l i. subst (λ n. IsNumbered n l) (sym made) (f.host.links.numbered l i);
      waiting = f.host.links.waiting;
      deaf = λ l c i live on shut. ⊎_elim (λ o. f.host.links.deaf l c i o on shut)
          (λ w. f.pending.0.1 l i (sym on ∙ ap (λ (x : Connection). x.number) w.3
          ∙ same-number w.0.number k w.2))
          (in-at_first (has_number k) (λ (x : Connection). record x { shut = true }) b.connections c
          (subst (λ cs. IsIn c cs) same live));
      draining = f.host.links.draining;
    };
    interfaces = f.host.interfaces;
    differ = f.host.differ;
    present = f.host.present;
  };
  pending = f.pending.1;
  known = λ c live. ⊎_elim (λ o. known-rest c (Act.Shut k) (λ e. absurd cc) (f.known c o))
      (λ w. subst (λ x. IsKnown x h.links rest) (sym w.3)
      (changed w.0 (known-rest w.0 (Act.Shut k) (λ e. absurd cc) (f.known w.0 w.1))))
      (in-at_first (has_number k) (λ (x : Connection). record x { shut = true }) b.connections c
      (subst (λ cs. IsIn c cs) same live));
  svc = λ c live one. ⊎_elim (λ o. f.svc c o one) (λ w. absurd (let two = f.pending.0.0 in
      omega (arith, two, same-number w.0.number k w.2, one, ap (λ (x : Connection). x.number) w.3)))
      (in-at_first (has_number k) (λ (x : Connection). record x { shut = true }) b.connections c
      (subst (λ cs. IsIn c cs) same live));
  made = subst (λ n. 1 ≤ n) (sym made) f.made;
}
  where
    changed : (c : Connection) → IsKnown c h.links rest
        → IsKnown (record c { shut = true }) h.links rest
    changed c (supervisory e) = supervisory e
    changed c (linked l i of) = linked l i
        (record { number = of.number; ap = of.ap; peer = of.peer; protocol = of.protocol })
    changed c (leaving i) = leaving i

-- ---- a connection is made

-- the application processor's part of it
abbrev pub new_link : ℕ → Making → Link
new_link k w = record {
  connection = k;
  ap = w.ap;
  intf = w.intf;
  cport = w.cport;
  protocol = w.protocol;
  state = state.Opening;
  credits = most_credits;
  awaits = None;
}

-- none stays deaf for a connection that is new
known-more : (c : Connection) (ls : List Link) (l : Link) (x : Act) → (Act.Leave c.number ≡ x → ⊥)
    → IsKnown c ls (x ∷ []) → {acts : List Act} → IsKnown c (ls ++ l ∷ []) acts
known-more c ls l x other (supervisory e) = supervisory e
known-more c ls l x other (linked k i of) = linked k (in-front k ls (l ∷ []) i) of
known-more c ls l x other (leaving (inl e)) = absurd (other e)
known-more c ls l x other (leaving (inr i)) = absurd i

links-more : (b : Bus) (h : Host) (w : Making) (q : Asking) → LinksFit b h.links → IsFree w q h
    → 1 ≤ b.made → ((c : Connection) → IsIn c b.connections → c.number ≤ b.made)
    → LinksFit (attached w.ap w.intf w.cport w.protocol b)
    (h.links ++ new_link (next_connection b) w ∷ [])
links-more b h w q f free made range = record {
  rise = two-pushed IsLinkBefore h.links new f.rise
      (each-from (λ l. IsLinkBefore l new) h.links (λ l i. let n = f.numbered l i in record {
        number = let g = n.given in omega (arith, g);
        ap = free.ap l i;
        apart = apart l i (is_link l.intf l.cport new) refl;
      }));
  numbered = λ l i. ⊎_elim (λ o. let n = f.numbered l o in
      record {
        from_two = n.from_two;
        given = let g = n.given in omega (arith, g);
        from_one = n.from_one;
        within = n.within;
        cport = n.cport;
      }) (λ e. subst (IsNumbered (b.made + 1)) (sym e) (record {
        from_two = omega (arith, made);
        given = omega arith;
        from_one = free.from_one;
        within = free.within;
        cport = free.cport_within;
      })) (in-pushed l h.links new i);
  waiting = λ l i. ⊎_elim (λ o. f.waiting l o)
      (λ e. subst IsWaiting (sym e) (λ v k. absurd (none-some k))) (in-pushed l h.links new i);
  deaf = λ l c i live on shut. ⊎_elim (λ o. ⊎_elim (λ a. f.deaf l c a o on shut)
      (λ e. let high = range c o in absurd
      (omega (arith, high, on, ap (λ (x : Link). x.connection) e))) (in-pushed l h.links new i))
      (λ e. absurd (not-both c.shut shut (ap (λ (x : Connection). x.shut) e)))
      (in-pushed c b.connections (new_connection (next_connection b) w.ap
      (end.Module w.intf w.cport) w.protocol) live);
  draining = λ l i. ⊎_elim (λ o. f.draining l o)
      (λ e. subst DrainsPlain (sym e) (λ k. absurd cc)) (in-pushed l h.links new i);
}
  where
    new : Link
    new = new_link (next_connection b) w

    apart : (l : Link) → IsIn l h.links → (t : Bool)
        → is_link l.intf l.cport (new_link (next_connection b) w) ≡ t → t ≡ false
    apart l i false e = refl
    apart l i true e =
        let at = link-is l.intf l.cport (new_link (next_connection b) w) e in
        absurd (not-both (is_link w.intf w.cport l) (is-link w.intf w.cport l (sym at.0) (sym at.1))
        (free.at l i))

host-more : (b : Bus) (h : Host) (w : Making) (q : Asking) → HostFits b h → IsFree w q h
    → 1 ≤ b.made → ((c : Connection) → IsIn c b.connections → c.number ≤ b.made)
    → HostFits (attached w.ap w.intf w.cport w.protocol b)
    (with_new_link (next_connection b) w.ap w.intf w.cport w.protocol h)
host-more b h w q f free made range = record {
  links = links-more b h w q f.links free made range;
  interfaces = λ x i v e. let old = f.interfaces x i v e in (
    old.0,
    λ early l j. ⊎_elim (λ o. old.1 early l o) (λ new. ap (is_link x.intf 0) new
        ∙ other x i v e (is_link x.intf 0 (new_link (next_connection b) w)) refl)
        (in-pushed l h.links (new_link (next_connection b) w) j),
  );
  differ = f.differ;
  present = λ l i. ⊎_elim (λ o. f.present l o)
      (λ e. subst (λ n. IsPresent n h.interfaces) (sym (ap (λ (x : Link). x.intf) e)) free.present)
      (in-pushed l h.links (new_link (next_connection b) w) i);
}
  where
    other : (x : Interface) → IsIn x h.interfaces → (v : ℕ × SequenceStep) → x.awaits ≡ Some v
        → (t : Bool) → is_link x.intf 0 (new_link (next_connection b) w) ≡ t → t ≡ false
    other x i v e false is = refl
    other x i v e true is =
        let at = link-is x.intf 0 (new_link (next_connection b) w) is in
        absurd (none-some (sym (free.idle at.1 x i (sym at.0)) ∙ e))

-- each live connection has a number that was given
given-number : {b : Bus} {h : Host} (w : Making) (q : Asking) (rest : List Act)
    → Linked b h (Act.Make w q ∷ rest) → (c : Connection) → IsIn c b.connections
    → c.number ≤ b.made
given-number {b} {h} w q rest f c live =
    by (subst (λ r. IsKnown c h.links (Act.Make w q ∷ r)) f.pending.0.1 (f.known c live))
  where
    by : IsKnown c h.links (Act.Make w q ∷ []) → c.number ≤ b.made
    by (supervisory one) = let low = f.made in omega (arith, low, one)
    by (linked l i of) =
        let given = (f.host.links.numbered l i).given in omega (arith, given, of.number)
    by (leaving (inl e)) = absurd cc
    by (leaving (inr i)) = absurd i

-- A connection is made, and its request is pending.
pub linked-opened : {b : Bus} {h : Host} (w : Making) (q : Asking) (rest : List Act)
    → Linked b h (Act.Make w q ∷ rest) → Linked (attached w.ap w.intf w.cport w.protocol b)
    (with_new_link (next_connection b) w.ap w.intf w.cport w.protocol h) (Act.Ask q ∷ rest)
linked-opened {b} {h} w q rest f = record {
  host = host-more b h w q f.host free f.made (given-number w q rest f);
  pending = (
    (
      due q.purpose.step free.step,
      f.pending.0.1,
      free.formed,
      λ e. absurd (not-both (asks_control q.purpose.step) e (making-asks free.step)),
    ),
    subst (ArePending (with_new_link (next_connection b) w.ap w.intf w.cport w.protocol h))
        (sym f.pending.0.1) tt,
  );
  known = λ c live. ⊎_elim
      (λ o. known-more c h.links (new_link (next_connection b) w) (Act.Make w q) (λ e. absurd cc)
      (subst (λ r. IsKnown c h.links (Act.Make w q ∷ r)) f.pending.0.1 (f.known c o)))
      (λ e. subst (λ x. IsKnown x (h.links ++ new_link (next_connection b) w ∷ [])
      (Act.Ask q ∷ rest)) (sym e) (linked (new_link (next_connection b) w) (last h.links)
      (record { number = refl; ap = refl; peer = refl; protocol = refl })))
      (in-pushed c b.connections new live);
  svc = λ c live one. ⊎_elim (λ o. f.svc c o one) (λ e. let high = f.made in absurd
      (omega (arith, high, one, ap (λ (x : Connection). x.number) e)))
      (in-pushed c b.connections new live);
  made = omega arith;
}
  where
    new : Connection
    new = new_connection (next_connection b) w.ap (end.Module w.intf w.cport) w.protocol

    free : IsFree w q h
    free = f.pending.0.0

    last : (ls : List Link) → IsIn (new_link (next_connection b) w)
        (ls ++ new_link (next_connection b) w ∷ [])
    last [] = inl refl
    last (l ∷ ls) = inr (last ls)

    due : (step : SequenceStep) → IsMaking w.cport step
        → IsDue step q.purpose (with_new_link (next_connection b) w.ap w.intf w.cport w.protocol h)
    due step (control zero_cport) = record {
      cport = f.pending.0.0.cport ∙ zero_cport;
      none = λ e. absurd cc;
      idle = λ x i e. f.pending.0.0.idle zero_cport x i (e ∙ f.pending.0.0.intf);
      present = let p = f.pending.0.0.present in
          record { interface = p.interface; known = p.known; is = p.is ∙ sym f.pending.0.0.intf };
    }
    due step (connection other) = record {
      cport = λ z. other (sym f.pending.0.0.cport ∙ z);
      idle = λ l e. ap (λ (x : Link). x.awaits) (is-new l e);
      state = λ l e. ap (λ (x : Link). x.state) (is-new l e);
    }
      where
        is-new : (l : Link) → find (is_link q.purpose.intf q.purpose.cport)
            (h.links ++ new_link (next_connection b) w ∷ []) ≡ Some l
            → l ≡ new_link (next_connection b) w
        is-new l e =
            let i = found-in (is_link q.purpose.intf q.purpose.cport)
            (h.links ++ new_link (next_connection b) w ∷ []) l e in
            ⊎_elim (λ o. absurd (not-both (is_link w.intf w.cport l)
            (ap (λ n. is_link n w.cport l) (sym f.pending.0.0.intf)
            ∙ ap (λ n. is_link q.purpose.intf n l) (sym f.pending.0.0.cport) ∙ i.1)
            (f.pending.0.0.at l o))) (λ e. e)
            (in-pushed l h.links (new_link (next_connection b) w) i.0)
