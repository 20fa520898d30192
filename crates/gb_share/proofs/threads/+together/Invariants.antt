use Rattle.std.proofs.Common.{◌+◌, ◌*◌, length}
use Rattle.gb_share.proofs.threads.+together.Given as goal

abbrev pub decreases-run_all : goal.decreases-run_all
decreases-run_all g l = 4 * length l.all.now

abbrev pub decreases-both : goal.decreases-both
decreases-both g l = 4 * length l.others.now + 3

abbrev pub decreases-both-beside : goal.decreases-both-beside
decreases-both-beside g l = 4 * length l.others.now + 1
