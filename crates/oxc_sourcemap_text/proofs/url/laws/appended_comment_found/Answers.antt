use Rattle.oxc_sourcemap_text.proofs.Appended.{appended-found}
use Rattle.oxc_sourcemap_text.proofs.url.laws.appended_comment_found.Goals as goal

pub returns : goal.returns
returns c = appended-found
