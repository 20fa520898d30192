-- What the calls of C do to the session of a handle.
use Rattle.std.specs.Prelude.{◌≡◌, ℕ, Bool, Option, Some, None, ◌⊎◌, List, length}
use Rattle.gb_machine.specs.State.{first_state}
use Rattle.gb_session.specs.Sessions.{Copies, Runs, Stands, text_of}
use Rattle.gb_session.specs.declared.session.Ended.{Ended}
use Rattle.gb_session.specs.declared.session.Ended.TheVariants as ended
use Rattle.gb_session.specs.declared.session.Session.{Session}
use Rattle.gbus_c.specs.declared.TheConstants.{BAD_LINE, CLOSED, DONE, NO_MEMORY, OPEN, SPENT}

-- In these, `held` is the session before the call, and `left` the one after it; None where the
-- handle is closed.

-- the number of how a line ended
abbrev pub number_of : Ended → ℕ
number_of ended.Done = DONE
number_of ended.Bad = BAD_LINE
number_of ended.NoMemory = NO_MEMORY
number_of ended.Spent = SPENT

-- a session was opened, which stands for the first state
pub record Opens (left : Option Session) (hex : Bool) (status : ℕ) : Type 0 where
  pub done : status ≡ DONE
  pub session : Session
  pub left_is : left ≡ Some session
  pub first : Stands session hex 0 first_state

-- no memory was found, and the handle is closed as before
pub record Lacks (left : Option Session) (status : ℕ) : Type 0 where
  pub wants : status ≡ NO_MEMORY
  pub closed : left ≡ None

-- A closed handle is opened, unless memory is wanting; an open one is left as it is.
abbrev pub OpensAs : (held left : Option Session) → Bool → ℕ → Type 0
OpensAs None left hex status = Opens left hex status ⊎ Lacks left status
OpensAs (Some x) left hex status = (status ≡ OPEN) × (left ≡ Some x)

-- the session ran a line, and its report has so many bytes
pub record RunsLine (x : Session) (left : Option Session) (line : List ℕ) (size status : ℕ)
    : Type 0 where
  pub how : Ended
  pub session : Session
  pub left_is : left ≡ Some session
  pub runs : Runs x session line how
  pub size_is : size ≡ length (text_of session)
  pub status_is : status ≡ number_of how

-- A line is run by an open handle's session, and by none where it is closed.
abbrev pub LineAs : (held left : Option Session) → List ℕ → (size status : ℕ) → Type 0
LineAs None left line size status = (status ≡ CLOSED) × (left ≡ None) × (size ≡ 0)
LineAs (Some x) left line size status = RunsLine x left line size status

-- The text is copied, and the session is the same.
abbrev pub CopiesAs : (held left : Option Session) → ℕ → (old new : List ℕ) → ℕ → Type 0
CopiesAs None left from old new count = (left ≡ None) × (new ≡ old) × (count ≡ 0)
CopiesAs (Some x) left from old new count =
    (left ≡ Some x) × Copies (text_of x) from old new count
