use Rattle.std.proofs.Common.{◌≡◌, ◌∙◌, ◌+◌, ◌++◌, ◌∷◌, ◌<◌, [], ap, subst, arith, take, drop}
use Rattle.std.proofs.Common.{length, Option, option_map}
use Rattle.std.proofs.lemmas.Grind.{common_steps}
use Rattle.std.proofs.lemmas.Result.{err_from_is_err_and}
use Rattle.oxc_sourcemap_parts.specs.Views.{cow_texts}
use Rattle.oxc_sourcemap_steps.specs.Composed.{target_of}
use Rattle.oxc_sourcemap_steps.specs.InheritedNames.{with_inherited}
use Rattle.oxc_sourcemap_steps.specs.Remapped.{Original, needed_name, token_to}
use Rattle.oxc_sourcemap_steps.specs.RemapSteps.{block_of, block_original, IsBlockTarget, names_in}
use Rattle.oxc_sourcemap_steps.specs.RemapSteps.{lent_original}
use Rattle.oxc_sourcemap_steps.specs.declared.remap.blocks.Block.{Block}
use Rattle.oxc_sourcemap_steps.proofs.Gathered.{made-more, past-all}
use Rattle.oxc_sourcemap_steps.proofs.remap.remap.remapped_tokens.Goals as goal

pub returns-in_err-token_at-clause-error : goal.returns-in_err-token_at-clause-error
returns-in_err-token_at-clause-error c =
    let bs = c.args.blocks.now in
    let olds = cow_texts c.args.names.now in
    let k = c.loop-token.token-index in
    let l = target_of c.token-item.result c.block_target-found.result in
    let block = c.block_of-block.ensures in
    let is : IsBlockTarget (block_of bs l.token) l = subst (λ (b : Option Block). IsBlockTarget b l) block c.block_target-found.ensures in
    let place : option_map lent_original c.block_original-original.result ≡ block_original (block_of bs l.token) olds l =
    c.block_original-original.ensures.original ∙ ap (λ (b : Option Block). block_original b olds l) block in
    let all : take k c.args.tokens.now ++ c.token-item.result ∷ drop (k + 1) c.args.tokens.now ≡ c.args.tokens.now = grind (arith, common_steps) in
    let p = err_from_is_err_and c.from_residual-in_err-token_at.result c.from_residual-in_err-token_at.ensures.1 in
    rw (p.1, p.2) (λ other.
    let r = c.in_err-token_at.ensures.error other in
    let many = subst (λ (o : Option Original). 4294967295 < length (with_inherited (names_in c.loop-token.needed) (needed_name o))) place r.1 in
    let past = past-all bs olds (take k c.args.tokens.now) c.args.tokens.now (names_in c.loop-token.needed) c.loop-token.remapped.items (drop (k + 1) c.args.tokens.now) l c.loop-token.invariant.made all is many in
    (r.0, past.0, past.1, past.2))

pub loop-token-preserved : goal.loop-token-preserved
loop-token-preserved c =
    let bs = c.args.blocks.now in
    let olds = cow_texts c.args.names.now in
    let k = c.loop-token.token-index in
    let l = target_of c.token-item.result c.block_target-found.result in
    let block = c.block_of-block.ensures in
    let is : IsBlockTarget (block_of bs l.token) l = subst (λ (b : Option Block). IsBlockTarget b l) block c.block_target-found.ensures in
    let place : option_map lent_original c.block_original-original.result ≡ block_original (block_of bs l.token) olds l =
    c.block_original-original.ensures.original ∙ ap (λ (b : Option Block). block_original b olds l) block in
    let more : take (k + 1) c.args.tokens.now ≡ take k c.args.tokens.now ++ c.token-item.result ∷ [] = grind (arith, common_steps) in record {
      placed = c.in_ok-token_at.ensures.placed;
      made = made-more bs olds (take k c.args.tokens.now) _ (names_in c.loop-token.needed) _ c.loop-token.remapped.items _ l c.loop-token.invariant.made more is
          (c.in_ok-token_at.ensures.names ∙ ap (λ (o : Option Original). with_inherited (names_in c.loop-token.needed) (needed_name o)) place)
          (c.in_ok-push.ensures.items ∙ ap (λ t. c.loop-token.remapped.items ++ t ∷ []) (c.in_ok-token_at.ensures.token ∙ ap (token_to (names_in c.token_at.new.needed) c.token-item.result) place));
    }
