-- The texts of tokens, one after the other.
use Rattle.std.proofs.Common.{◌≡◌, ℕ, suc, ◌+◌, ◌<◌, ◌≤◌, List, [], ◌∷◌, length, take, drop}
use Rattle.std.proofs.Common.{reverse, get_or, refl, sym, add-one}
use Rattle.std.specs.Fmt.{◌++?◌, AppendsText}
use Rattle.std.specs.Option.{option_or}
use Rattle.std.proofs.Math.Seq.{drop-cons}
use Rattle.std.proofs.lemmas.List.{take_more, drop_all, append-nil, reverse-append}
use Rattle.oxc_sourcemap_tokens.specs.Token.{TokenRecord}
use Rattle.oxc_sourcemap_parts.specs.Record.{Text, MapRecord}
use Rattle.oxc_sourcemap_map.specs.VisualText.{shown, shown_source, nearest_source}
use Rattle.oxc_sourcemap_map.specs.VisualText.{visual_token_text, tokens_text}

-- the tokens before the next one: this one, and those before it
further-front : (ts : List TokenRecord) (i : ℕ) (t : TokenRecord) → i < length ts → reverse (take (i + 1) ts) ≡ get_or ts i t ∷ reverse (take i ts)
further-front ts i t h = rw (take_more ts i t h, reverse-append (take i ts) (get_or ts i t ∷ []))

pub further-source : (r : MapRecord) (ts : List TokenRecord) (i : ℕ) (t : TokenRecord) → i < length ts
    → nearest_source r (reverse (take (i + 1) ts)) ≡ option_or (shown_source r (get_or ts i t)) (nearest_source r (reverse (take i ts)))
further-source r ts i t h = rw (further-front ts i t h)

tokens-step : (code : List (List ℕ)) (r : MapRecord) (front after : List TokenRecord) (t : TokenRecord)
    → tokens_text code r front (t ∷ after) ≡ (visual_token_text code (nearest_source r front) t after t.source_id (shown r t) ++? tokens_text code r (t ∷ front) after)
unfolding tokens_text
tokens-step code r front after t = refl

-- the text that is left at index i: that of its token, and the text that is left at the next index
pub further-text : (code : List (List ℕ)) (r : MapRecord) (ts : List TokenRecord) (i : ℕ) (t : TokenRecord) → i < length ts
    → tokens_text code r (reverse (take i ts)) (drop i ts)
    ≡ (visual_token_text code (nearest_source r (reverse (take i ts))) (get_or ts i t) (drop (i + 1) ts) (get_or ts i t).source_id (shown r (get_or ts i t))
    ++? tokens_text code r (reverse (take (i + 1) ts)) (drop (i + 1) ts))
further-text code r ts i t h = rw (further-front ts i t h, add-one, drop-cons ts i t h) (tokens-step code r (reverse (take i ts)) (drop (suc i) ts) (get_or ts i t))

pub text-end : (code : List (List ℕ)) (r : MapRecord) (ts : List TokenRecord) (i : ℕ) (out : Text) → length ts ≤ i → AppendsText out out (tokens_text code r (reverse (take i ts)) (drop i ts))
unfolding tokens_text
text-end code r ts i out h = rw (drop_all i ts h) (sym (append-nil out))
