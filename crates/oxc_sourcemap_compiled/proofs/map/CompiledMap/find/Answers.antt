use Rattle.std.proofs.Common.{◌≡◌, ℕ, List, Option, Some, None, IfSome, slice_get}
use Rattle.std.proofs.Common.{ap, ◌∙◌, sym, subst}
use Rattle.oxc_sourcemap_tokens.specs.Token.{TokenRecord}
use Rattle.oxc_sourcemap_tokens.specs.declared.position.Position.{Position}
use Rattle.oxc_sourcemap_lookup.specs.declared.bias.Bias.{Bias}
use Rattle.oxc_sourcemap_compiled.specs.Words.{header_in, token_in, compiled_in, IsOnLine}
use Rattle.oxc_sourcemap_compiled.specs.Words.{IsInOrder, IsFoundIn}
use Rattle.oxc_sourcemap_compiled.specs.declared.opened.Opened.{Opened}
use Rattle.oxc_sourcemap_compiled.proofs.Entries.{stands-on}
use Rattle.oxc_sourcemap_compiled.proofs.map.CompiledMap.find.Goals as goal

-- the token that is found stands at its index, if bytes are in order
stands : (o : Opened) (bytes : List ℕ) (bias : Bias) (at : Position) (found : Option (ℕ × TokenRecord)) → o.bytes.now ≡ bytes → o.header ≡ header_in bytes
    → IsFoundIn o.bytes.now o.header bias at found → IfSome found (λ f. IsInOrder bytes → slice_get (compiled_in bytes).content.tokens f.0 ≡ Some f.1)
stands o bytes bias at None view same is = tt
stands o bytes bias at (Some f) view same is = λ order.
    let on = is.token ∙ ap (λ b. token_in b o.header at.line f.0) view ∙ ap (λ h. token_in bytes h at.line f.0) same in
    let among = subst (λ b. IsOnLine b (header_in bytes) at.line f.0) view (subst (λ h. IsOnLine o.bytes.now h at.line f.0) same is.index.among) in
    stands-on bytes (header_in bytes) order at.line f.0 among ∙ ap Some (sym on)

pub returns-clause-token : goal.returns-clause-token
returns-clause-token c = stands c.self.inside.opened c.args.self.now c.args.bias c.args.at c.find.result c.self.view_is (c.self.invariant.header ∙ ap header_in c.self.view_is) c.find.ensures
