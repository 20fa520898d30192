-- What the application processor does of its own: a turn is how it is afterwards, and acts.
use Rattle.std.specs.Prelude.{ℕ, List, ◌∷◌, map}
use Rattle.gb_base.specs.declared.entry.Entry.{Entry}
use Rattle.gb_base.specs.declared.steps.Purpose.{Purpose}
use Rattle.gb_machine.specs.Host.{Host}

-- a request that it makes on a connection
pub record Asking : Type 0 where
  pub on : ℕ
  pub kind : ℕ
  pub payload : List ℕ
  pub purpose : Purpose

-- a connection that it makes
pub record Making : Type 0 where
  pub ap : ℕ
  pub intf : ℕ
  pub cport : ℕ
  pub protocol : ℕ

-- An act: a request is made; a connection is made, and then the request for it; its side of a
-- connection is closed; a connection is given up; something is told.
pub data Act : Type 0 where
  Ask : Asking → Act
  Make : Making → Asking → Act
  Shut : ℕ → Act
  Leave : ℕ → Act
  Tell : Entry → Act

-- How the application processor is after it took notice of something, and what it does.
pub record Turn : Type 0 where
  pub host : Host
  pub acts : List Act

-- it is so afterwards, and does this
abbrev pub turn : Host → List Act → Turn
turn h acts = record { host = h; acts = acts }

-- something is told before a turn
abbrev pub telling : Entry → Turn → Turn
telling e t = record t { acts = Tell e ∷ t.acts }

-- What a failure changes, and what is told of it.
pub record Failing : Type 0 where
  pub host : Host
  pub told : List Entry

-- it is so after a failure, and this is told
abbrev pub failing : Host → List Entry → Failing
failing h told = record { host = h; told = told }

-- a failure as a turn
abbrev pub failed_turn : Failing → Turn
failed_turn f = turn f.host (map Tell f.told)
