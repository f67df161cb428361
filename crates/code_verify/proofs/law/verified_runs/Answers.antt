-- Each law of verified code is a lemma on its rules.
use Rattle.code_verify.proofs.Keeps.{jumps_up}
use Rattle.code_verify.proofs.Above.{passes_once}
use Rattle.code_verify.proofs.NeverStuck.{never_stuck}
use Rattle.code_verify.proofs.law.verified_runs.Goals as goal

pub returns-clause-jumps_up : goal.returns-clause-jumps_up
returns-clause-jumps_up c = jumps_up

pub returns-clause-passes_once : goal.returns-clause-passes_once
returns-clause-passes_once c = passes_once

pub returns-clause-never_stuck : goal.returns-clause-never_stuck
returns-clause-never_stuck c = never_stuck
