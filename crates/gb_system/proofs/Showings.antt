-- What is shown is what the machine shows.
use Rattle.std.proofs.Common.{◌≡◌, ℕ, ◌+◌, ◌<◌, Option, Some, None, option_map, List, [], ◌∷◌}
use Rattle.std.proofs.Common.{◌++◌, map, length, get_or, drop, append_assoc, refl, sym, ap, ◌∙◌}
use Rattle.gb_base.specs.declared.entry.ConnState.{ConnState}
use Rattle.gb_base.specs.declared.entry.ConnState.TheVariants as state
use Rattle.gb_base.specs.declared.entry.Entry.{Entry}
use Rattle.gb_base.specs.declared.entry.Entry.TheVariants as entry
use Rattle.gb_base.specs.declared.event.Event.TheVariants as event
use Rattle.gb_base.specs.declared.interface.Interface.{Interface}
use Rattle.gb_base.specs.declared.interface.Link.{Link}
use Rattle.gb_bus.specs.Overview.{known_of, waiting_of}
use Rattle.gb_bus.specs.declared.overview.Known.{Known}
use Rattle.gb_bus.specs.declared.overview.Waiting.{Waiting}
use Rattle.gb_formats.specs.ShowTexts.{now_line}
use Rattle.gb_host.specs.Stands.{host_of}
use Rattle.gb_machine.proofs.Opened.{machine_opened}
use Rattle.gb_machine.specs.Actions.{tell_all}
use Rattle.gb_machine.specs.Bus.{Connection}
use Rattle.gb_machine.specs.Host.{Host}
use Rattle.gb_machine.specs.Names.{names_in_order}
use Rattle.gb_machine.specs.Show.{connection_shown, interface_shown, name_shown, queue_shown, shown}
use Rattle.gb_machine.specs.Show.{state_of}
use Rattle.gb_machine.specs.State.{State}
use Rattle.gb_machine.specs.Waiting.{Queue, queues}
use Rattle.gb_system.proofs.Doings.{does-by_state, does-tell_all}
use Rattle.gb_system.proofs.Midways.{drop-next}
use Rattle.gb_system.specs.Showing.{known_shown, lines, waiting_shown}
use Rattle.gb_system.specs.Doing.{IsDone}
use Rattle.gb_system.specs.Stands.{PartsStand}
use Rattle.gb_system.specs.declared.parties.Parties.{Parties}

-- the lines of two lists of texts
lines-both : (xs ys : List (List ℕ)) → lines (xs ++ ys) ≡ lines xs ++ lines ys
lines-both [] ys = refl
lines-both (x ∷ xs) ys = ap (λ es. entry.Shown x ∷ es) (lines-both xs ys)

-- what is told of a connection shows it
known-lines : (h : Host) (cs : List Connection)
    → map (known_shown h) (map known_of cs) ≡ map (connection_shown h) cs
known-lines h [] = refl
known-lines h (c ∷ cs) = ap (λ ls. connection_shown h c ∷ ls) (known-lines h cs)

-- what is told of a queue shows it
waiting-lines : (qs : List Queue) → map waiting_shown (map waiting_of qs) ≡ map queue_shown qs
waiting-lines [] = refl
waiting-lines (q ∷ qs) = ap (λ ls. queue_shown q ∷ ls) (waiting-lines qs)

-- one more line is told
pub one-told : {A : Type 0} (show : A → List ℕ) (xs : List A) (i : ℕ) (x : A) (text : List ℕ)
    (before after : List Entry) {all : List Entry}
    → i < length xs → x ≡ get_or xs i x → text ≡ show x
    → after ≡ before ++ entry.Shown text ∷ []
    → before ++ lines (map show (drop i xs)) ≡ all
    → after ++ lines (map show (drop (i + 1) xs)) ≡ all
one-told show xs i x text before after {all} within is shown told whole =
    ap (λ (es : List Entry). es ++ left) told
    ∙ append_assoc before (entry.Shown text ∷ []) left
    ∙ ap (λ (t : List ℕ). before ++ entry.Shown t ∷ left) shown
    ∙ ap (λ ys. before ++ lines (map show ys)) (sym (drop-next xs i x within is))
    ∙ whole
  where
    left : List Entry
    left = lines (map show (drop (i + 1) xs))

-- the state of a connection that the application processor knows
pub state-there : (o : Option Link) (v : Option ConnState) (state : ConnState)
    → v ≡ option_map (λ l. l.state) o → v ≡ Some state → state ≡ state_of o
state-there None v state e is = absurd cc
state-there (Some l) v state e is = cc

-- and of one that it doesn't know
pub state-nowhere : (o : Option Link) (v : Option ConnState)
    → v ≡ option_map (λ l. l.state) o → v ≡ None → state.Open ≡ state_of o
state-nowhere None v e is = refl
state-nowhere (Some l) v e is = absurd cc

-- four lists behind one
four-behind : (h p q r t : List Entry)
    → (((h ++ p) ++ q) ++ r) ++ t ≡ h ++ (p ++ (q ++ (r ++ t)))
four-behind h p q r t =
    append_assoc ((h ++ p) ++ q) r t ∙ append_assoc (h ++ p) q (r ++ t)
    ∙ append_assoc h p (q ++ (r ++ t))

-- the lines of four lists of texts
lines-four : (a b c d : List (List ℕ))
    → lines a ++ (lines b ++ (lines c ++ lines d)) ≡ lines (a ++ (b ++ (c ++ d)))
lines-four a b c d =
    ap (λ es. lines a ++ (lines b ++ es)) (sym (lines-both c d))
    ∙ ap (λ es. lines a ++ es) (sym (lines-both b (c ++ d)))
    ∙ sym (lines-both a (b ++ (c ++ d)))

-- what is told part by part, behind the first line
behind-time : (s : State) (a b c d : List (List ℕ))
    → a ≡ map interface_shown s.host.interfaces
    → b ≡ map (connection_shown s.host) s.bus.connections
    → c ≡ map queue_shown (queues s.bus)
    → d ≡ map (name_shown s.bus) (names_in_order s)
    → entry.Shown (now_line s.now) ∷ (lines a ++ (lines b ++ (lines c ++ lines d))) ≡ shown s
behind-time s a b c d ea eb ec ed =
    ap (λ es. entry.Shown (now_line s.now) ∷ es) (lines-four a b c d)
    ∙ ap (λ w. lines (now_line s.now ∷ w ++ (b ++ (c ++ d)))) ea
    ∙ ap (λ w. lines (now_line s.now ∷ ins ++ (w ++ (c ++ d)))) eb
    ∙ ap (λ w. lines (now_line s.now ∷ ins ++ (cons ++ (w ++ d)))) ec
    ∙ ap (λ w. lines (now_line s.now ∷ ins ++ (cons ++ (map queue_shown (queues s.bus) ++ w)))) ed
  where
    ins : List (List ℕ)
    ins = map interface_shown s.host.interfaces

    cons : List (List ℕ)
    cons = map (connection_shown s.host) s.bus.connections

-- the entries are the machine's, and nothing changed
shown-as : (x : Parties) (s : State) (before es : List Entry) → PartsStand [] x s
    → es ≡ before ++ shown s → IsDone x s event.Show before es
unfolding machine_opened
shown-as x s before es st is = record {
  allowed = refl;
  done = does-by_state (λ t. tell_all (shown t)) (does-tell_all (shown s) st is);
}

-- The lines are told one part after another.
pub shows : (x : Parties) (s : State) (e0 e1 e2 e3 e4 e5 : List Entry) (text : List ℕ)
    (known : List Interface) (live : List Known) (waiting : List Waiting) → PartsStand [] x s
    → text ≡ now_line x.time → e1 ≡ e0 ++ entry.Shown text ∷ []
    → e2 ≡ e1 ++ lines (map interface_shown known)
    → e3 ≡ e2 ++ lines (map (known_shown (host_of x.host)) live)
    → e4 ≡ e3 ++ lines (map waiting_shown waiting)
    → e5 ≡ e4 ++ lines (map (name_shown s.bus) x.names)
    → known ≡ s.host.interfaces → live ≡ map known_of s.bus.connections
    → waiting ≡ map waiting_of (queues s.bus)
    → IsDone x s event.Show e0 e5
shows x s e0 e1 e2 e3 e4 e5 text known live waiting st it i1 i2 i3 i4 i5 ik il iw =
    shown-as x s e0 e5 st
    (i5 ∙ ap (λ es. es ++ d) (i4 ∙ ap (λ es. es ++ c) (i3 ∙ ap (λ es. es ++ b)
    (i2 ∙ ap (λ es. es ++ a) (i1
    ∙ ap (λ t. e0 ++ entry.Shown t ∷ []) (it ∙ ap now_line (sym st.rest.time))))))
    ∙ four-behind (e0 ++ time) a b c d ∙ append_assoc e0 time (a ++ (b ++ (c ++ d)))
    ∙ ap (λ es. e0 ++ es) (behind-time s (map interface_shown known)
    (map (known_shown (host_of x.host)) live) (map waiting_shown waiting)
    (map (name_shown s.bus) x.names) (ap (map interface_shown) ik) eb ec ed))
  where
    time : List Entry
    time = entry.Shown (now_line s.now) ∷ []

    a : List Entry
    a = lines (map interface_shown known)

    b : List Entry
    b = lines (map (known_shown (host_of x.host)) live)

    c : List Entry
    c = lines (map waiting_shown waiting)

    d : List Entry
    d = lines (map (name_shown s.bus) x.names)

    eb : map (known_shown (host_of x.host)) live ≡ map (connection_shown s.host) s.bus.connections
    eb = ap (map (known_shown (host_of x.host))) il
        ∙ ap (λ h. map (known_shown h) (map known_of s.bus.connections)) (sym st.host)
        ∙ known-lines s.host s.bus.connections

    ec : map waiting_shown waiting ≡ map queue_shown (queues s.bus)
    ec = ap (map waiting_shown) iw ∙ waiting-lines (queues s.bus)

    ed : map (name_shown s.bus) x.names ≡ map (name_shown s.bus) (names_in_order s)
    ed = ap (map (name_shown s.bus)) (sym st.names.listed)
