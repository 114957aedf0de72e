use Rattle.std.proofs.Common.{◌≡◌, ◌++◌, ◌∷◌, [], ◌∙◌, ap, rules, string_bytes, length}
use Rattle.std.specs.List.{repeat}
use Rattle.std.specs.Str.Chunks.{utf8_chunks_rest, utf8_chunk_valid, utf8_chunk_invalid}
use Rattle.sourcemap_run.proofs.Masks.{at_first, one_more_chunk, at_last}
use Rattle.sourcemap_run.proofs.raw_lines.masked.Goals as goal

pub loop-chunk-init : goal.loop-chunk-init
loop-chunk-init c =
    let none : string_bytes c.new-text.result ≡ [] = search rules in
    let all : utf8_chunks_rest c.into_iter-chunk-iterator.result ≡ c.args.line.now = search rules in
    at_first c.args.line.now (string_bytes c.new-text.result) (utf8_chunks_rest c.into_iter-chunk-iterator.result) none all

pub loop-chunk-preserved : goal.loop-chunk-preserved
loop-chunk-preserved c =
    let text = string_bytes c.loop-chunk.text in
    one_more_chunk c.args.line.now text (utf8_chunks_rest c.loop-chunk.chunk-iterator) (utf8_chunk_valid c.in-Some.chunk) (utf8_chunk_invalid c.in-Some.chunk)
    (utf8_chunks_rest c.next.new.self) (string_bytes c.push_str.new.self) c.as_str.result.now (string_bytes c.push_str-in-loop-chunk.new.self) c.loop-chunk.invariant
    c.in-Some.ensures.steps.0 c.in-Some.ensures.steps.3.0 c.in-Some.ensures.steps.3.1 (c.in_ok-push_str.ensures.bytes ∙ ap (λ v. text ++ v) c.valid.ensures)
    (c.as_str.ensures.value ∙ c.in_ok-repeat.ensures.bytes ∙ ap (λ l. repeat (length l) (0 ∷ [])) c.invalid.ensures) c.in_ok-push_str-2.ensures.bytes

pub returns : goal.returns
returns c = at_last c.args.line.now (string_bytes c.loop-chunk.text) (utf8_chunks_rest c.loop-chunk.chunk-iterator) c.loop-chunk.invariant c.in-None.ensures.steps.0
