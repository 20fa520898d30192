-- What was told of a connection is of one that was made, and names its far end.
use Rattle.std.proofs.Common.{Bool, List, ap, arith, false, inl, inr, map, refl, subst, sym, true}
use Rattle.std.proofs.Common.{ℕ, ⊎_elim, [], ◌++◌, ◌∙◌, ◌∷◌, ◌≡◌, ◌≤◌}
use Rattle.gb_base.specs.declared.end.End.TheVariants as end
use Rattle.gb_base.specs.declared.end.Side.TheVariants as side
use Rattle.gb_base.specs.declared.entry.Entry.{Entry}
use Rattle.gb_base.specs.declared.entry.Entry.TheVariants as entry
use Rattle.gb_base.specs.declared.interface.Link.{Link}
use Rattle.gb_machine.specs.Bus.{Bus, Connection, next_number}
use Rattle.gb_machine.specs.{Failures.unsent, Host.Host, Members.Each}
use Rattle.gb_machine.specs.{Members.IsIn, Requests.open_on, Runs.Moment, Sending.sent, Turns.Act}
use Rattle.gb_machine.specs.{Wires.disconnected_told, Wiring.shut_down, Wiring.unwired}
use Rattle.gb_invariants.proofs.BusChanges.{BusChange, Was, bus_after, came, sends, stayed, was}
use Rattle.gb_invariants.proofs.BusChanges.{went}
use Rattle.gb_invariants.proofs.Lists.{each-append, each-in, each-weaker, in-pushed}
use Rattle.gb_invariants.proofs.Wires.{made-number}
use Rattle.gb_invariants.specs.Facts.{IsMade}
use Rattle.gb_invariants.proofs.HostChanges.{turn_of}
use Rattle.gb_laws.proofs.links.LinkTells.{ActsTell, TellsLink, turns-tell, unsent-told}
use Rattle.gb_laws.proofs.links.Links.{ArePending, IsKnown, leaving, linked, supervisory}
use Rattle.gb_laws.proofs.points.PointParts.{Basis, Point, is_silent, sent_told}
use Rattle.gb_laws.proofs.points.Points.{Change, IsAsking, acts_asked, acts_failed, acts_left}
use Rattle.gb_laws.proofs.points.Points.{acts_made}
use Rattle.gb_laws.proofs.points.Points.{acts_shut, acts_told, answers, asking, asks, changed}
use Rattle.gb_laws.proofs.points.Points.{drops}
use Rattle.gb_laws.proofs.points.Points.{gives_up, injects, names, opening, replies, tells, turns}
use Rattle.gb_laws.proofs.points.Points.{unwires}
use Rattle.gb_laws.proofs.{points.ChangeBuses.bus_change, points.ChangeBuses.by-bus}
use Rattle.gb_laws.proofs.{links.LinkFrom.Linked}
use Rattle.gb_laws.proofs.{links.LinkKept.LinkedAt, links.LinkLists.one-link}

-- an entry on a connection is of one that was made, and where that is live it names its far end
abbrev pub Matches : Bus → Entry → Type 0
Matches b (entry.Connection k ap i c state) = (k ≤ b.made)
    × ((x : Connection) → IsIn x b.connections → x.number ≡ k → x.peer ≡ end.Module i c)
Matches b _ = Unit {0}

-- so are those that acts tell
abbrev pub ActsMatch : Bus → List Act → Type 0
ActsMatch b [] = Unit {0}
ActsMatch b (Act.Tell e ∷ rest) = Matches b e × ActsMatch b rest
ActsMatch b (Act.Ask q ∷ rest) = ActsMatch b rest
ActsMatch b (Act.Make w q ∷ rest) = ActsMatch b rest
ActsMatch b (Act.Shut k ∷ rest) = ActsMatch b rest
ActsMatch b (Act.Leave k ∷ rest) = ActsMatch b rest

-- all that was told, and that is to be told
pub record ToldIn (b : Bus) (entries : List Entry) (pending : List Act) : Type 0 where
  pub told : Each (Matches b) entries
  pub acts : ActsMatch b pending

-- ---- the bus changes

-- connections that were made keep their far ends
pub record KeepsPeers (b after : Bus) : Type 0 where
  pub made : b.made ≤ after.made
  pub peers : (x : Connection) → IsIn x after.connections → x.number ≤ b.made
      → (y : Connection) × IsIn y b.connections × (y.number ≡ x.number) × (x.peer ≡ y.peer)

matches-kept : (b : Bus) {after : Bus} → KeepsPeers b after → (e : Entry) → Matches b e → Matches
    after e
matches-kept b keeps (entry.Connection k ap i c state) h = (
  let low = h.0 in let more = keeps.made in omega (arith, low, more),
  λ x live on.
      let y = keeps.peers x live (let low = h.0 in omega (arith, low, on)) in
      y.3 ∙ h.1 y.0 y.1 (y.2 ∙ on),
)
matches-kept b keeps _ h = tt

acts-kept : {b after : Bus} → KeepsPeers b after → (acts : List Act) → ActsMatch b acts
    → ActsMatch after acts
acts-kept keeps [] h = tt
acts-kept {b} keeps (Act.Tell e ∷ rest) h =
    (matches-kept b keeps e h.0, acts-kept keeps rest h.1)
acts-kept keeps (Act.Ask q ∷ rest) h = acts-kept keeps rest h
acts-kept keeps (Act.Make w q ∷ rest) h = acts-kept keeps rest h
acts-kept keeps (Act.Shut k ∷ rest) h = acts-kept keeps rest h
acts-kept keeps (Act.Leave k ∷ rest) h = acts-kept keeps rest h

told-kept : {b after : Bus} (told es : List Entry) (acts : List Act) → KeepsPeers b after
    → Each (Matches after) es → ToldIn b told acts → ToldIn after (told ++ es) acts
told-kept {b} {after} told es acts keeps more h = record {
  told = each-append (Matches after) told es
      (each-weaker (Matches b) (Matches after) told (matches-kept b keeps) h.told) more;
  acts = acts-kept keeps acts h.acts;
}

peers-after : (x : BusChange) {b : Bus} → KeepsPeers b (bus_after x b)
peers-after x {b} = record { made = more x; peers = λ c live low. by c low (was x b c live) }
  where
    more : (x : BusChange) → b.made ≤ (bus_after x b).made
    more (sends d label) = omega arith
    more _ = omega arith

    by : (c : Connection) → c.number ≤ b.made → Was x b c
        → (y : Connection) × IsIn y b.connections × (y.number ≡ c.number) × (c.peer ≡ y.peer)
    by c low (stayed o) = (c, o, refl, refl)
    by c low (went d o at is g) = (d, o, sym g.ends.number, g.ends.peer)
    by c low (came e) = absurd (omega (arith, low, made-number x b c e))

-- ---- what is told

silent-matches : (b : Bus) (e : Entry) → is_silent e ≡ true → Matches b e
silent-matches b (entry.Connection k ap i c state) h = absurd cc
silent-matches b _ h = tt

sent-matches : (b : Bus) (t : Bool) (n : ℕ) → Each (Matches b) (sent_told t n)
sent-matches b true n = (tt, tt)
sent-matches b false n = tt

ends-match : (b : Bus) (ns : List ℕ) → Each (Matches b) (map disconnected_told ns)
ends-match b [] = tt
ends-match b (n ∷ ns) = (tt, ends-match b ns)

-- what is told of a connection that is known
link-matches : (b : Bus) (h : Host) (acts : List Act) → Linked b h acts
    → ((k : ℕ) → IsIn (Act.Leave k) acts → ⊥) → (e : Entry) → TellsLink h e → Matches b e
link-matches b h acts f none (entry.Connection k own i c state) t = (
  let high = (f.host.links.numbered t.0 t.1).given in omega (arith, high, t.2),
  λ x live on. by x on (f.known x live),
)
  where
    by : (x : Connection) → x.number ≡ k → IsKnown x h.links acts → x.peer ≡ end.Module i c
    by x on (supervisory one) =
        let two = (f.host.links.numbered t.0 t.1).from_two in
        absurd (omega (arith, two, one, on, t.2))
    by x on (leaving j) = absurd (none x.number j)
    by x on (linked l j of) =
        let same = one-link h.links l t.0 f.host.links.rise j t.1 (sym of.number ∙ on ∙ sym t.2) in
        of.peer ∙ ap (λ (y : Link). end.Module y.intf y.cport) same
        ∙ ap (λ n. end.Module n t.0.cport) t.3 ∙ ap (end.Module i) t.4
link-matches b h acts f none _ t = tt

links-match : (b : Bus) (h : Host) → ((e : Entry) → TellsLink h e → Matches b e)
    → (acts : List Act) → ActsTell h acts → ActsMatch b acts
links-match b h one [] t = tt
links-match b h one (Act.Tell e ∷ rest) t = (one e t.0, links-match b h one rest t.1)
links-match b h one (Act.Ask q ∷ rest) t = links-match b h one rest t
links-match b h one (Act.Make w q ∷ rest) t = links-match b h one rest t
links-match b h one (Act.Shut k ∷ rest) t = links-match b h one rest t
links-match b h one (Act.Leave k ∷ rest) t = links-match b h one rest t

-- ---- each single change

abbrev pub ToldAt : Point → Type 0
ToldAt a = ToldIn a.state.bus a.told a.pending

-- the bus changes, and something is told that matches
told-by : (m : Moment) (a : Point) (x : Change m a) (es : List Entry)
    → Each (Matches (changed m a x).state.bus) es → ToldAt a
    → ToldIn (changed m a x).state.bus (a.told ++ es) a.pending
told-by m a x es more h = told-kept a.told es a.pending
    (by-bus (KeepsPeers a.state.bus) x (peers-after (bus_change x))) more h

-- then an act is done
told-act : (m : Moment) (a : Point) (x : Change m a) (es : List Entry) (y : Act) (rest : List Act)
    → a.pending ≡ y ∷ rest → Each (Matches (changed m a x).state.bus) es → ToldAt a
    → Each (Matches (changed m a x).state.bus) (a.told ++ es)
    × ActsMatch (changed m a x).state.bus (y ∷ rest)
told-act m a x es y rest is more h = let now = told-by m a x es more h in
    (now.told, subst (ActsMatch (changed m a x).state.bus) is now.acts)

pub told-links_kept : (m : Moment) (a : Point) (x : Change m a) → Basis a → LinkedAt a → ToldAt a
    → ToldAt (changed m a x)
told-links_kept m a (tells e silent) basis links h =
    told-by m a (tells e silent) (e ∷ []) (silent-matches a.state.bus e silent, tt) h
told-links_kept m a (asks d c label free live drawn who) basis links h =
    told-by m a (asks d c label free live drawn who) _
    (tt, sent-matches (sent d label a.state.bus) d.oneway (next_number a.state.bus)) h
told-links_kept m a (names name d c label free live drawn host) basis links h =
    told-by m a (names name d c label free live drawn host) _
    (tt, sent-matches (sent d label a.state.bus) d.oneway (next_number a.state.bus)) h
told-links_kept m a drops basis links h = record { told = h.told; acts = h.acts }
told-links_kept m a (replies x q r is made twoway) basis links h =
    told-by m a (replies x q r is made twoway) (_ ∷ []) (tt, tt) h
told-links_kept m a (answers x n result payload is says which) basis links h =
    told-by m a (answers x n result payload is says which) (_ ∷ []) (tt, tt) h
told-links_kept m a (gives_up n how free unended cause) basis links h =
    told-by m a (gives_up n how free unended cause) (_ ∷ []) (tt, tt) h
told-links_kept m a (unwires k free before live) basis links h =
    told-by m a (unwires k free before live) _
    (ends-match (unwired k a.state.bus) (open_on k side.Far a.state.bus)) h
told-links_kept m a (injects i c p bytes free named) basis links h =
    told-by m a (injects i c p bytes free named) (_ ∷ []) (tt, tt) h
told-links_kept m a (turns e free untouched none cause) basis links h = record {
  told = (told-by m a (turns e free untouched none cause) [] tt h).told;
  acts = links-match a.state.bus a.state.host (link-matches a.state.bus a.state.host []
      (subst (Linked a.state.bus a.state.host) none links) (λ k i. i))
      (turn_of e a.state.host).acts (turns-tell e a.state.host);
}
told-links_kept m a (acts_told e rest is quiet) basis links h =
    let pending = subst (ActsMatch a.state.bus) is h.acts in record {
      told = each-append (Matches a.state.bus) a.told (e ∷ []) h.told (pending.0, tt);
      acts = pending.1;
    }
told-links_kept m a (acts_shut k rest free is cause) basis links h =
    let t = told-act m a (acts_shut k rest free is cause) _ (Act.Shut k) rest is
    (ends-match (shut_down k a.state.bus) (open_on k side.Ap a.state.bus)) h in
    record { told = t.0; acts = t.1 }
told-links_kept m a (acts_left k rest free untouched is) basis links h =
    let t = told-act m a (acts_left k rest free untouched is) [] (Act.Leave k) rest is tt h in
    record { told = t.0; acts = t.1 }
told-links_kept m a (acts_made w q rest free is) basis links h =
    let t = told-act m a (acts_made w q rest free is) (_ ∷ []) (Act.Make w q) rest is (
      (
        omega arith,
        λ x live on. ⊎_elim
            (λ o. absurd (let high = (each-in (IsMade a.state.bus) a.state.bus.connections x
            basis.bus.numbers.range o).1 in omega (arith, high, on)))
            (λ e. ap (λ (y : Connection). y.peer) e) (in-pushed x a.state.bus.connections _ live),
      ),
      tt,
    ) h in
    record { told = t.0; acts = t.1 }
told-links_kept m a (acts_asked q n rest is) basis links h =
    let t = told-act m a (acts_asked q n rest is) [] (Act.Ask q) rest is.0 tt h in
    record { told = t.0; acts = t.1 }
told-links_kept m a (acts_failed q rest is quiet) basis links h = record {
  told = each-append (Matches a.state.bus) a.told (unsent q.purpose a.state.host).told h.told
      (each-weaker (TellsLink a.state.host) (Matches a.state.bus)
      (unsent q.purpose a.state.host).told
      (link-matches a.state.bus a.state.host a.pending links (λ k i. none k i is))
      (unsent-told q.purpose a.state.host));
  acts = left is;
}
  where
    no-leave : (k : ℕ) (x : Act) (acts : List Act) → (Act.Leave k ≡ x → ⊥) → acts ≡ []
        → IsIn (Act.Leave k) (x ∷ acts) → ⊥
    no-leave k x acts other none (inl e) = other e
    no-leave k x acts other none (inr i) = subst (λ ys. IsIn (Act.Leave k) ys) none i

    none : (k : ℕ) → IsIn (Act.Leave k) a.pending → IsAsking q a.pending rest → ⊥
    none k i (asking e) = no-leave k (Act.Ask q) rest (λ f. absurd cc)
        (subst (ArePending a.state.host) e links.pending).0.1
        (subst (λ acts. IsIn (Act.Leave k) acts) e i)
    none k i (opening w e) = no-leave k (Act.Make w q) rest (λ f. absurd cc)
        (subst (ArePending a.state.host) e links.pending).0.1
        (subst (λ acts. IsIn (Act.Leave k) acts) e i)

    left : IsAsking q a.pending rest → ActsMatch a.state.bus rest
    left (asking e) = subst (ActsMatch a.state.bus) e h.acts
    left (opening w e) = subst (ActsMatch a.state.bus) e h.acts
told-links_kept m a x basis links h = told-by m a x [] tt h
