use Rattle.pulse_words.proofs.Parsed.{rows_met}
use Rattle.pulse_words.proofs.line.parse_words.Goals as goal

pub returns-in-Ok-try_get_matches_from-clause-matches :
    goal.returns-in-Ok-try_get_matches_from-clause-matches
returns-in-Ok-try_get_matches_from-clause-matches c = rows_met _ _ _ c.in-Ok.ensures c.in-Ok-try_get_matches_from.ensures.matches
