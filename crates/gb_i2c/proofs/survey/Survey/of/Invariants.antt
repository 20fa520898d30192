-- What was seen so far and what the rest shows are what all shows.
use Rattle.gb_i2c.proofs.Surveys.{Surveyed}
use Rattle.gb_i2c.proofs.survey.Survey.of.Given as goal

abbrev pub invariant-loop : goal.invariant-loop
invariant-loop l =
    Surveyed l.count l.counter l.survey.strange l.survey.elsewhere l.survey.read l.ops l.rest
