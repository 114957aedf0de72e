use Rattle.std.proofs.Common.{◌≡◌, refl, arith, take}
use Rattle.std.proofs.lemmas.Map.Text.{text_keys}
use Rattle.std.proofs.lemmas.Slice.Eq.{bytes_eq-Decides}
use Rattle.std.specs.Cow.{cow_str_bytes}
use Rattle.std.specs.Option.{unwrap_or}
use Rattle.std.specs.Str.{bytes_eq}
use Rattle.oxc_sourcemap_parts.specs.Texts.{index_of}
use Rattle.oxc_sourcemap_parts.specs.Views.{cow_texts}
use Rattle.oxc_sourcemap_steps.proofs.KeptNames.{index_step}
use Rattle.oxc_sourcemap_steps.proofs.FirstOnes.{firsts-more}
use Rattle.oxc_sourcemap_steps.proofs.simplify.firsts.first_texts.Goals as goal

pub loop-i-preserved : goal.loop-i-preserved
loop-i-preserved c =
    let texts = c.args.texts.now in
    let i = c.loop-i.i in
    let item = c.index-texts-i.result in
    let x = cow_str_bytes item in
    let key = c.as_str.result in
    let inv = c.loop-i.invariant in
    let value : c.or_insert.result.now ≡ unwrap_or (index_of x (cow_texts (take i texts))) i =
    grind (arith, text_keys, c.or_insert.ensures.value, c.in_ok-places.ensures.value, inv.places key.now, c.as_str.ensures.value) in record {
      places = λ text.
          let step = index_step cow_str_bytes text texts i item c.loop-i-test.true c.index-texts-i.is in
          grind (arith, text_keys, step, inv.places text, inv.places key.now, c.as_str.ensures.value);
      firsts = firsts-more bytes_eq cow_str_bytes texts i item c.loop-i.firsts.items _ c.or_insert.result.now c.loop-i-test.true c.index-texts-i.is
          ((bytes_eq-Decides x x).1 refl) c.in_ok-push.ensures.items value inv.firsts;
    }
