-- Answers that show a token of a map by the texts that it points to.
use Rattle.std.proofs.Common.{◌≡◌, ℕ, refl, ap, ◌∙◌, sym, subst, Option, Some, None, MatchOption}
use Rattle.std.proofs.Common.{slice_get, [], option_map, IfSome, ◌⊎◌, inl, inr, arith}
use Rattle.std.proofs.lemmas.Bool.{cases_lt}
use Rattle.std.specs.Option.{unwrap_or, option_and_then}
use Rattle.oxc_sourcemap_tokens.specs.Token.{TokenRecord}
use Rattle.oxc_sourcemap_parts.specs.Record.{Text, MapRecord}
use Rattle.oxc_sourcemap_parts.specs.DecodedMap.{OriginalPosition, name_of}
use Rattle.oxc_sourcemap_lookup.specs.Trace.{original_in}
use Rattle.oxc_sourcemap_map.specs.View.{seen_in, view_original}
use Rattle.oxc_sourcemap_map.proofs.Picks.{tuple_says}
use Rattle.oxc_sourcemap_c.specs.declared.texts.text.Original.{Original}
use Rattle.oxc_sourcemap_c.specs.Structs.{HasOriginal, IsSeen, IsShown, kind_by, kind_of}
use Rattle.oxc_sourcemap_c.specs.Structs.{numbers_of, numbers_or_none, index_number}

shown-as : (source name : Option Text) (t : TokenRecord) (p : Original) (original : Option OriginalPosition)
    → MatchOption original (source ≡ None) (λ o. (source ≡ Some o.source.path) × (t.src_line ≡ o.src_line) × (t.src_col ≡ o.src_col) × (name ≡ o.name))
    → p.kind ≡ kind_by source name → p.source.bytes.now ≡ unwrap_or source [] → p.name.bytes.now ≡ unwrap_or name [] → p.token ≡ numbers_of t → HasOriginal p (Some original)
shown-as source name t p None says kind s n token = (kind ∙ ap (λ x. kind_by x name) says, s ∙ ap (λ x. unwrap_or x []) says)
shown-as source name t p (Some o) says kind s n token = record {
  kind = kind ∙ ap (λ x. kind_by x name) says.0 ∙ ap kind_of says.3;
  line = ap (λ x. x.src_line) token ∙ says.1;
  column = ap (λ x. x.src_col) token ∙ says.2;
  source = s ∙ ap (λ x. unwrap_or x []) says.0;
  name = n ∙ ap (λ x. unwrap_or x []) says.3;
}

-- an answer with the source and the name of a token of a map shows it
pub shown : (m : MapRecord) (t : TokenRecord) (source name : Option Text) (p : Original)
    → source ≡ option_and_then (slice_get m.sources) t.source_id → name ≡ name_of m.names t
    → p.kind ≡ kind_by source name → p.source.bytes.now ≡ unwrap_or source [] → p.name.bytes.now ≡ unwrap_or name [] → p.token ≡ numbers_of t
    → HasOriginal p (Some (view_original (seen_in m t)))
shown m t source name p is_source is_name kind s n token =
    let v = seen_in m t in
    let says = tuple_says v source t.src_line t.src_col name is_source refl refl is_name in
    shown-as source name t p (view_original v) says kind s n token

-- the token that is shown is that of its index
pub seen : (m : MapRecord) (i : ℕ) (t : TokenRecord) (p : Original) → slice_get m.tokens i ≡ Some t → IsShown m i t p → IsSeen m (Some i) p
seen m i t p there is = record {
  index = is.index;
  token = is.token ∙ sym (ap numbers_or_none there);
  name = is.name ∙ sym (ap (λ x. unwrap_or (option_and_then (name_of m.names) x) []) there);
  original = subst (λ x. HasOriginal p (option_map (original_in m) x)) (sym there) is.original;
}

-- the number of the index of a token of which this holds
pub numbered : (P : ℕ → Type 0) (found : Option ℕ) (n : ℕ) → n ≡ index_number found → IfSome found P → (n ≡ 4294967295) ⊎ P n
numbered P None n e is = inl (omega (arith, e))
numbered P (Some i) n e is =
    elim (cases_lt i 4294967295) [
      | inl less ↦ (let same : i ≡ n = omega (arith, e, less) in inr (subst P same is))
      | inr more ↦ inl (omega (arith, e, more))
    ]
