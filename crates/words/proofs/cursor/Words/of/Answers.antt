use Rattle.words.proofs.Standing.{words_apart}
use Rattle.words.proofs.cursor.Words.of.Goals as goal

pub returns-clause-apart : goal.returns-clause-apart
returns-clause-apart c = words_apart
