-- A law of points goes over what the application processor does.
use Rattle.std.proofs.Common.{List, None, Option, Some, ap, append-nil, refl, subst, sym, ℕ, []}
use Rattle.std.proofs.Common.{◌++◌, ◌∙◌, ◌∷◌, ◌≡◌}
use Rattle.std.specs.Prelude.{option_and_then}
use Rattle.gb_base.specs.declared.end.Side.TheVariants as side
use Rattle.gb_base.specs.declared.entry.ConnState.TheVariants as state
use Rattle.gb_base.specs.declared.entry.Entry.TheVariants as entry
use Rattle.gb_machine.proofs.Opened.{machine_opened}
use Rattle.gb_machine.specs.Actions.{Action, change, each, given, on_host, tell, ◌▸◌}
use Rattle.gb_machine.specs.Bus.{Connection, connection_of, next_number}
use Rattle.gb_machine.specs.HostActs.{acts, asked_with, fails, host_asks, host_draft, host_makes}
use Rattle.gb_machine.specs.HostActs.{made_with, with_awaited, with_made}
use Rattle.gb_machine.specs.Turns.{Act, Asking, Making}
use Rattle.gb_machine.specs.{Asking.asked, Asking.asks_with, Failures.unsent}
use Rattle.gb_machine.specs.{Labels.cyclic_label, Labels.next_label, Runs.Moment}
use Rattle.gb_machine.specs.{Sending.sent, State.State, Wiring.next_connection}
use Rattle.gb_invariants.proofs.Awaiting.{none-some}
use Rattle.gb_invariants.proofs.HostChanges.{Notice, turn_of}
use Rattle.gb_invariants.proofs.ModuleTurns.{takes_notice}
use Rattle.gb_laws.proofs.links.ActsFit.{AreFit, IsFit, ever-fit, fit-turn, quiet-unsent}
use Rattle.gb_laws.proofs.points.Points.{IsAsking, IsOver, acts_asked, acts_failed, acts_left}
use Rattle.gb_laws.proofs.points.Points.{acts_made}
use Rattle.gb_laws.proofs.points.Points.{acts_shut, acts_told, asking, asks, by_host, opening}
use Rattle.gb_laws.proofs.points.Points.{turns}
use Rattle.gb_laws.proofs.steps.StepActions.{At, Goes, goes-nothing, goes-▸}
use Rattle.gb_laws.proofs.{points.PointParts.IsCaused, points.PointParts.Untouched}
use Rattle.gb_laws.proofs.{steps.StepActLaws.ActLaw}

-- ---- acts, done

module _ (m : Moment) (law : ActLaw m) where
  -- over an action of the application processor
  abbrev pub Acts : List Act → List Act → Action → State → Type 0
  Acts pending rest f s = Goes m law None pending Untouched None rest Untouched f s

  goes-fails : (q : Asking) {pending : List Act} (rest : List Act) (s : State) → IsAsking q pending
      rest → Acts pending rest (fails (unsent q.purpose)) s
  unfolding machine_opened
  goes-fails q rest s is told at =
      law.kept _ (acts_failed q rest is (quiet-unsent q.purpose s.host)) tt at

  goes-host_asks : (q : Asking) (rest : List Act) (s : State)
      → Acts (Act.Ask q ∷ rest) rest (host_asks q) s
  unfolding machine_opened
  goes-host_asks q rest s = by (next_label q.on side.Ap s.bus) refl
    where
      unlabelled : connection_of q.on s.bus ≡ None → next_label q.on side.Ap s.bus ≡ None
      unlabelled e = ap (option_and_then (cyclic_label q.on side.Ap s.bus)) e

      made : (o : Option Connection) → connection_of q.on s.bus ≡ o
          → (l : Option ℕ) → next_label q.on side.Ap s.bus ≡ l
          → (label : ℕ) → next_label q.on side.Ap s.bus ≡ Some label
          → Acts (Act.Ask q ∷ rest) rest (λ t. (given o (λ c. given l
          (λ n. asks_with (host_draft q s.now) c n))
          ▸ change (with_awaited q.purpose (next_number s.bus))) s) s
      made None e l f label g = absurd (none-some (sym (unlabelled e) ∙ g))
      made (Some c) e None f label g = absurd (none-some (sym f ∙ g))
      made (Some c) e (Some n) f label g = λ told at. subst (λ es. At m law None rest Untouched es
          (with_awaited q.purpose (next_number s.bus)
          (record s { bus = sent (host_draft q s.now) n s.bus })))
          (append-nil (told ++ asked (host_draft q s.now) c n s.bus ∷ []))
          (law.kept _ (acts_asked q (next_number s.bus) rest (refl, refl)) tt
          (law.kept _ (asks (host_draft q s.now) c n refl e f
          (by_host q rest refl refl refl)) tt at))

      by : (o : Option ℕ) → next_label q.on side.Ap s.bus ≡ o
          → Acts (Act.Ask q ∷ rest) rest (asked_with o q) s
      by None e = goes-fails q rest s (asking refl)
      by (Some label) e =
          made (connection_of q.on s.bus) refl (next_label q.on side.Ap s.bus) refl label e

  goes-host_makes : (w : Making) (q : Asking) (rest : List Act) (s : State)
      → Acts (Act.Make w q ∷ rest) rest (host_makes w q) s
  unfolding machine_opened
  goes-host_makes w q rest s = by (next_label q.on side.Ap s.bus)
    where
      by : (o : Option ℕ) → Acts (Act.Make w q ∷ rest) rest (made_with o w q) s
      by None = goes-fails q rest s (opening w refl)
      by (Some label) =
          goes-▸ m law
          (change (with_made w) ▸ tell (entry.Connection (next_connection s.bus) w.ap w.intf w.cport
          state.Opening)) (host_asks q)
          (λ told at. law.kept _ (acts_made w q rest refl refl) tt at)
          (goes-host_asks q rest (with_made w s))

  goes-act : (x : Act) (rest : List Act) (s : State) → IsFit m s.bus x
      → Acts (x ∷ rest) rest (acts x) s
  unfolding machine_opened
  goes-act (Act.Ask q) rest s fit told at = goes-host_asks q rest s told at
  goes-act (Act.Make w q) rest s fit told at = goes-host_makes w q rest s told at
  goes-act (Act.Shut k) rest s fit told at = law.kept _ (acts_shut k rest refl refl fit) tt at
  goes-act (Act.Leave k) rest s fit told at = law.kept _ (acts_left k rest refl refl refl) tt at
  goes-act (Act.Tell e) rest s fit told at = law.kept _ (acts_told e rest refl fit) tt at

  pub goes-acts : (xs : List Act) (s : State) → AreFit m s.bus xs → Acts xs [] (each xs acts) s
  unfolding machine_opened
  goes-acts [] s fit = goes-nothing m law None [] Untouched s
  goes-acts (x ∷ xs) s fit =
      goes-▸ m law (acts x) (each xs acts)
      (goes-act x xs s fit.0)
      (goes-acts xs (acts x s).state (ever-fit m (acts x s).state.bus xs fit.1))

  -- the application processor takes notice of something in one turn
  pub goes-notice : (x : Notice) (s : State) → IsOver m x s.bus → IsCaused m x s.host
      → Acts [] [] (takes_notice x) s
  unfolding machine_opened
  goes-notice x s over cause =
      goes-▸ m law (on_host (λ h. (turn_of x s.host).host)) (each (turn_of x s.host).acts acts)
      (λ told at. law.kept _ (turns x refl (refl, over) refl cause) tt at)
      (goes-acts (turn_of x s.host).acts _ (fit-turn m s.bus x s.host over cause))
