-- What a line is after a text was put to it. Assumes nothing.
use Rattle.std.specs.Prelude.{ℕ, ◌≡◌, List, length}
use Rattle.wording.specs.declared.text.Line.{Line}
use Rattle.wording.specs.Text.{Laid}

-- the text is laid from where the line was on, in the same list
pub record Put (text : List ℕ) (before after : Line) : Type 0 where
  pub list : after.to.ghost_name ≡ before.to.ghost_name
  pub long : length after.to.now ≡ length before.to.now
  pub laid : Laid after.at before.at text before.to.now after.to.now
