use Rattle.std.proofs.Common.{◌≡◌, ◌++◌, codes, ap, ◌∙◌, append_assoc, string_bytes, Ok, refl}
use Rattle.std.proofs.lemmas.Str.Pattern.{split_text_parts}
use Rattle.sourcemap_run.proofs.FirstTexts.{first_text}
use Rattle.sourcemap_run.proofs.page.fill_template.Goals as goal

pub returns-in_default : goal.returns-in_default
returns-in_default c =
    let parts = rw c.in_default.is at (split_text_parts (codes "{{data}}") c.args.template.now c.split_once.result c.split_once.ensures.cases) in
    record { page = λ has. parts has.0 has.1 has.2 }

pub returns : goal.returns
returns c =
    let front = c.in-Some.front.now in
    let back = c.in-Some.back.now in
    let held = string_bytes c.in_ok-encode.field-0 in
    let parts : c.args.template.now ≡ front ++ (codes "{{data}}" ++ back) =
    rw c.in-Some.is at (split_text_parts (codes "{{data}}") c.args.template.now c.split_once.result c.split_once.ensures.cases) in
    let found = rw c.in-Some.is at c.split_once.ensures.cases in
    let begun : string_bytes c.push_str.new.self ≡ front ++ held =
    c.in_ok-push_str.ensures.bytes ∙ ap (λ t. t ++ c.as_str.result.now) c.in_ok-page.ensures.ok ∙ ap (λ t. front ++ t) c.as_str.ensures.value in
    record {
      page = record {
        front = front;
        back = back;
        template_is = parts;
        is_first = λ xs ys e. first_text (codes "{{data}}") c.args.template.now front xs ys found.0 found.1 found.2 found.6 e;
        held = held;
        reads_back = c.in_ok-encode.ensures.round_trip refl ∙ ap Ok c.as_bytes.ensures.value;
        page_is = c.in_ok-push_str-2.ensures.bytes ∙ ap (λ t. t ++ back) begun ∙ append_assoc front held back;
      };
    }
