-- What is legal is what is accepted, whatever the words ask for.
use Rattle.std.proofs.Common.{Err, Ok, Result, ℕ, ◌↔◌}
use Rattle.job_words.specs.{Request.Request, Words.job_of}
use Rattle.legality.proofs.LegalLemmas.{legal-is-accepted as legal-for}
use Rattle.mp3_cli.specs.Run.{IsAcceptedBy, IsLegalBy, LegalWordsAreAccepted}
use Rattle.outside.specs.Files.{Contents}

-- a job is legal exactly if it is accepted, and a bad word is neither
pub legal-by : (r : Result Request ℕ) (files : Contents) → IsLegalBy files r ↔ IsAcceptedBy files r
legal-by (Ok asked) files = legal-for asked files
legal-by (Err place) files = ((λ legal. legal), (λ accepted. accepted))

-- words and files are legal exactly if they are accepted
pub legal-is-accepted : LegalWordsAreAccepted
legal-is-accepted words files = legal-by (job_of words) files
