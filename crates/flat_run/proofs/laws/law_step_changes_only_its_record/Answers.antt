use Rattle.flat_run.proofs.RecordLaws.{record_alone}
use Rattle.flat_run.proofs.laws.law_step_changes_only_its_record.Goals as goal

pub returns : goal.returns
returns c = record_alone
