-- What the words of the command line ask for, as the code has it.
use Rattle.std.specs.Prelude.{ℕ}
use Rattle.gbus.specs.Program as program
use Rattle.gbus.specs.declared.words.Job.{Job}
use Rattle.gbus.specs.declared.words.Job.TheVariants as job
use Rattle.gbus.specs.declared.words.LineJob.{LineJob}
use Rattle.gbus.specs.declared.words.LineJob.TheVariants as line_job
use Rattle.gbus.specs.declared.words.Task.{Task}
use Rattle.gbus.specs.declared.words.Task.TheVariants as task
use Rattle.gbus.specs.declared.words.WholeJob.{WholeJob}
use Rattle.gbus.specs.declared.words.WholeJob.TheVariants as whole_job

abbrev pub line_job_seen : LineJob → program.LineJob
line_job_seen (line_job.Report hex) = program.Report hex
line_job_seen line_job.Audit = program.Audit

abbrev pub whole_job_seen : WholeJob → program.WholeJob
whole_job_seen (whole_job.Check dump) = program.Check dump
whole_job_seen whole_job.Compile = program.Compile
whole_job_seen whole_job.Decompile = program.Decompile

abbrev pub task_seen : Task → program.Job
task_seen (task.Whole j) = program.Whole (whole_job_seen j)
task_seen (task.Share hex) = program.Share hex
task_seen (task.Drive seed) = program.Drive seed

abbrev pub job_seen : Job → program.Job
job_seen (job.ByLine j) = program.ByLine (line_job_seen j)
job_seen (job.Task t) = task_seen t

-- the number from which a script is made
abbrev pub task_seed : Task → ℕ
task_seed (task.Whole j) = 0
task_seed (task.Share hex) = 0
task_seed (task.Drive seed) = seed

abbrev pub seed_of : Job → ℕ
seed_of (job.ByLine j) = 0
seed_of (job.Task t) = task_seed t
