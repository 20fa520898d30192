use Rattle.gb_party_tests.proofs.desk.+opens_all.Given as goal

abbrev pub decreases-opens_all : goal.decreases-opens_all
decreases-opens_all g l = l.last
