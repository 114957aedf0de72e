use Rattle.std.proofs.Common.{◌≡◌, ◌≢◌, ◌++◌, [], ◌∷◌, ℕ, List, sym, ◌∙◌, inl, inr, lit<}
use Rattle.std.proofs.lemmas.Result.{IfOk-weaker}
use Rattle.std.proofs.lemmas.Str.Pattern.{strip_suffix_char}
use Rattle.sourcemap_run.proofs.bundling.with_line_end.Goals as goal

pub returns-in-Some-clause-text : goal.returns-in-Some-clause-text
returns-in-Some-clause-text c =
    let cut = strip_suffix_char 10 c.args.text.now c.strip_suffix.result c.strip_suffix.ensures.cases (lit< tt) in
    let text : c.args.text.now ≡ c.in-Some.front.now ++ 10 ∷ [] = rw c.in-Some.is at cut in
    IfOk-weaker c.with_line_feed.result _ _ (λ whole e. inl ((c.in-Some.front.now, text), e ∙ sym text)) c.with_line_feed.ensures.text

pub returns-in-None-clause-text : goal.returns-in-None-clause-text
returns-in-None-clause-text c =
    let cut = strip_suffix_char 10 c.args.text.now c.strip_suffix.result c.strip_suffix.ensures.cases (lit< tt) in
    let none : (front : List ℕ) → c.args.text.now ≢ front ++ 10 ∷ [] = rw c.in-None.is at cut in
    IfOk-weaker c.with_line_feed-in-None.result _ _ (λ whole e. inr (λ ends. none ends.0 ends.1, e)) c.with_line_feed-in-None.ensures.text
