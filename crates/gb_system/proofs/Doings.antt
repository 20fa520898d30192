-- Actions that are put together, as the parties do them.
use Rattle.std.proofs.Common.{◌≡◌, Bool, true, false, Option, Some, None, List, [], ◌∷◌, ◌++◌}
use Rattle.std.proofs.Common.{append-nil, append_assoc, sym, ap, ◌∙◌, subst}
use Rattle.gb_base.specs.declared.entry.Entry.{Entry}
use Rattle.gb_machine.proofs.Opened.{machine_opened}
use Rattle.gb_machine.specs.Actions.{Action, Told, by_state, change, given, nothing, on_bus}
use Rattle.gb_machine.specs.Actions.{on_host, tell, tell_all, when, ◌▸◌}
use Rattle.gb_machine.specs.Bus.{Bus}
use Rattle.gb_machine.specs.Host.{Host}
use Rattle.gb_machine.specs.State.{State}
use Rattle.gb_system.specs.Doing.{Does}
use Rattle.gb_system.specs.Stands.{PartsStand}
use Rattle.gb_system.specs.declared.parties.Parties.{Parties}

-- what was done at one state was done at another, where another action does the same there
pub does-as : {x : Parties} {f g : Action} {s t : State} {a b : List Entry}
    → f t ≡ g s → Does x f t a b → Does x g s a b
does-as {x} {f} {g} {s} {t} {a} {b} same d = record {
  told_is = d.told_is ∙ ap (λ (o : Told). a ++ o.entries) same;
  stand = subst (λ (o : Told). PartsStand [] x o.state) same d.stand;
}

-- what an action does is known: the state after it, and what it tells
pub does-is : {x : Parties} {f : Action} {s : State} {a b : List Entry} (t : State)
    (es : List Entry) → f s ≡ record { state = t; entries = es } → b ≡ a ++ es
    → PartsStand [] x t → Does x f s a b
does-is {x} {f} {s} {a} {b} t es is appended st = record {
  told_is = appended ∙ ap (λ (w : Told). a ++ w.entries) (sym is);
  stand = subst (λ (w : Told). PartsStand [] x w.state) (sym is) st;
}

-- one after another
pub does-then : {x y : Parties} {f g : Action} {s : State} {a b c : List Entry}
    → Does x f s a b → Does y g (f s).state b c → Does y (f ▸ g) s a c
unfolding machine_opened
does-then {x} {y} {f} {g} {s} {a} {b} {c} d e = record {
  told_is = e.told_is ∙ ap (λ es. es ++ (g (f s).state).entries) d.told_is
      ∙ append_assoc a (f s).entries (g (f s).state).entries;
  stand = e.stand;
}

-- nothing is done
pub does-nothing : {x : Parties} {s : State} {a : List Entry} → PartsStand [] x s
    → Does x nothing s a a
unfolding machine_opened
does-nothing {x} {s} {a} st = record { told_is = sym (append-nil a); stand = st }

-- an entry is told
pub does-tell : {x : Parties} {s : State} {a b : List Entry} (e : Entry) → PartsStand [] x s
    → b ≡ a ++ e ∷ [] → Does x (tell e) s a b
unfolding machine_opened
does-tell e st is = record { told_is = is; stand = st }

-- entries are told
pub does-tell_all : {x : Parties} {s : State} {a b : List Entry} (es : List Entry)
    → PartsStand [] x s → b ≡ a ++ es → Does x (tell_all es) s a b
unfolding machine_opened
does-tell_all es st is = record { told_is = is; stand = st }

-- the state changes
pub does-change : {x : Parties} {s : State} {a : List Entry} (f : State → State)
    → PartsStand [] x (f s) → Does x (change f) s a a
unfolding machine_opened
does-change {x} {s} {a} f st = record { told_is = sym (append-nil a); stand = st }

-- the bus part changes
pub does-on_bus : {x : Parties} {s : State} {a : List Entry} (f : Bus → Bus)
    → PartsStand [] x (record s { bus = f s.bus }) → Does x (on_bus f) s a a
unfolding machine_opened
does-on_bus {x} {s} {a} f st = record { told_is = sym (append-nil a); stand = st }

-- the application processor changes
pub does-on_host : {x : Parties} {s : State} {a : List Entry} (f : Host → Host)
    → PartsStand [] x (record s { host = f s.host }) → Does x (on_host f) s a a
unfolding machine_opened
does-on_host {x} {s} {a} f st = record { told_is = sym (append-nil a); stand = st }

-- what is done depends on the state
pub does-by_state : {x : Parties} {s : State} {a b : List Entry} (f : State → Action)
    → Does x (f s) s a b → Does x (by_state f) s a b
unfolding machine_opened
does-by_state f d = record { told_is = d.told_is; stand = d.stand }

-- what is done with a value, which is there or not
pub does-given : {A : Type 0} {x : Parties} {o : Option A} {s : State} {a b : List Entry}
    (f : A → Action) (v : A) → o ≡ Some v → Does x (f v) s a b → Does x (given o f) s a b
unfolding machine_opened
does-given {A} {x} {o} {s} {a} {b} f v is d =
    subst (λ (p : Option A). Does x (given p f) s a b) (sym is) d

pub does-given_none : {A : Type 0} {x : Parties} {o : Option A} {s : State} {a : List Entry}
    (f : A → Action) → o ≡ None → PartsStand [] x s → Does x (given o f) s a a
unfolding machine_opened
does-given_none {A} {x} {o} {s} {a} f is st =
    subst (λ (p : Option A). Does x (given p f) s a a) (sym is)
    (record { told_is = sym (append-nil a); stand = st })

-- what is done on a condition
pub does-when : {x : Parties} {t : Bool} {s : State} {a b : List Entry} (f : Action)
    → t ≡ true → Does x f s a b → Does x (when t f) s a b
unfolding machine_opened
does-when {x} {t} {s} {a} {b} f is d =
    subst (λ (u : Bool). Does x (when u f) s a b) (sym is) d

pub does-unless : {x : Parties} {t : Bool} {s : State} {a : List Entry} (f : Action)
    → t ≡ false → PartsStand [] x s → Does x (when t f) s a a
unfolding machine_opened
does-unless {x} {t} {s} {a} f is st =
    subst (λ (u : Bool). Does x (when u f) s a a) (sym is)
    (record { told_is = sym (append-nil a); stand = st })
