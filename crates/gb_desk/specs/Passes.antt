-- Passes and desks.
use Rattle.std.specs.Prelude.{◌≡◌, Some}
use Rattle.gb_desk.specs.Calls.{HasLegal}
use Rattle.gb_desk.specs.declared.desk.Desk.{Desk}
use Rattle.gb_desk.specs.declared.pass.Pass.{Pass}
use Rattle.gb_desk.specs.declared.view.View.{View}
use Rattle.gb_system.specs.declared.system.System.{System}

-- what a pass knows
abbrev pub known : Pass → View
known pass = pass.seat.me.0

-- a pass has as many parts as before, and the same tickets
abbrev pub IsAsBefore : View → View → Type 0
IsAsBefore v w = (w.parts ≡ v.parts) × (w.tickets ≡ v.tickets)

-- the system with which a desk was made
abbrev pub first_of : Desk → System
first_of desk = desk.table.shared.key.value

-- A pass of this desk. The history that it has seen is legal, from the desk's first system on.
pub record IsOf (desk : Desk) (pass : Pass) : Type 0 where
  pub table : pass.seat.table_id ≡ desk.table.shared.table_id
  pub first : (known pass).first ≡ Some (first_of desk)
  pub legal : HasLegal (known pass)
