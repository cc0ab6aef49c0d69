-- A job without where its text lies in memory.
use Rattle.acc_run.specs.declared.job.Job.{Job}
use Rattle.acc_run.specs.declared.job.Job.TheVariants as code
use Rattle.acc_run.specs.Job as spec

-- the job with the text of its file
abbrev pub job_view : Job → spec.Job
job_view (code.Run file) = spec.Run file.now
job_view code.Table = spec.Table
