use Rattle.std.proofs.Common.{map, ap, sym, ◌∙◌, lit<}
use Rattle.std.specs.Option.{option_map}
use Rattle.std.proofs.lemmas.Str.Pattern.{strip_prefix_char}
use Rattle.oxc_sourcemap_plan.proofs.PlanArguments.{text-read, text-missing, text-bad}
use Rattle.oxc_sourcemap_plan.proofs.plan_arguments.input_text.Goals as goal

pub returns-in_default : goal.returns-in_default
returns-in_default c =
    let p = strip_prefix_char 64 c.args.argument.now c.strip_prefix.result c.strip_prefix.ensures.cases (lit< tt) in
    (tt, text-bad (map (λ text. text.now) c.args.inputs.now) c.args.argument.now (rw c.in_default.is at p))

pub returns-in-Some-input_at : goal.returns-in-Some-input_at
returns-in-Some-input_at c =
    let p = strip_prefix_char 64 c.args.argument.now c.strip_prefix.result c.strip_prefix.ensures.cases (lit< tt) in (
      text-read (map (λ text. text.now) c.args.inputs.now) c.args.argument.now c.in-Some.digits.now c.in-Some-read_number.number c.in-Some-input_at.text.now (rw c.in-Some.is at p)
          (sym c.read_number.ensures ∙ c.in-Some-read_number.is) (sym c.input_at.ensures ∙ ap (option_map (λ text. text.now)) c.in-Some-input_at.is),
      tt,
    )

pub returns-in-None : goal.returns-in-None
returns-in-None c =
    let p = strip_prefix_char 64 c.args.argument.now c.strip_prefix.result c.strip_prefix.ensures.cases (lit< tt) in (
      tt,
      text-missing (map (λ text. text.now) c.args.inputs.now) c.args.argument.now c.in-Some.digits.now c.in-Some-read_number.number (rw c.in-Some.is at p)
          (sym c.read_number.ensures ∙ c.in-Some-read_number.is) (sym c.input_at.ensures ∙ ap (option_map (λ text. text.now)) c.in-None.is),
    )
