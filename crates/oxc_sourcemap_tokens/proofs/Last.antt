-- What the last tokens of a list give, and the state after it.
use Rattle.std.proofs.Common.{◌≡◌, ℕ, suc, ◌+◌, ◌-◌, ◌<◌, List, [], ◌∷◌, ◌++◌, length, take, get_or}
use Rattle.std.proofs.Common.{arith, refl, sym, ap, ◌∙◌, Option, Some, None, slice_get, true, false}
use Rattle.std.specs.Option.{unwrap_or, option_map, option_or, is_some}
use Rattle.std.proofs.Math.Seq.{take-suc}
use Rattle.oxc_sourcemap_tokens.specs.Token.{TokenRecord, mapped_name}
use Rattle.oxc_sourcemap_tokens.specs.State.{State}
use Rattle.oxc_sourcemap_tokens.specs.Steps.{advanced, advanced_all, source_given, last_given}
use Rattle.oxc_sourcemap_tokens.proofs.Fits.{same-fields}

-- ---- the search from the end
or-none : {A : Type 0} (a : Option A) → option_or a None ≡ a
or-none None = refl
or-none (Some x) = refl

or-again : {A : Type 0} (a b c : Option A) → option_or (option_or a b) c ≡ option_or a (option_or b c)
or-again None b c = refl
or-again (Some x) b c = refl

last_given-append : {A : Type 0} (given : TokenRecord → Option A) (ts : List TokenRecord) (t : TokenRecord) → last_given given (ts ++ t ∷ []) ≡ option_or (given t) (last_given given ts)
last_given-append given [] t = sym (or-none (given t))
last_given-append given (u ∷ ts) t = ap (λ o. option_or o (given u)) (last_given-append given ts t) ∙ or-again (given t) (last_given given ts) (given u)

-- the search, with the token at index i and the tokens before it
last_given-step : {A : Type 0} (given : TokenRecord → Option A) (ts : List TokenRecord) (n i : ℕ) (d : TokenRecord) → n ≡ suc i → i < length ts →
    last_given given (take n ts) ≡ option_or (given (get_or ts i d)) (last_given given (take i ts))
last_given-step given ts n i d e h = ap (λ k. last_given given (take k ts)) e ∙ ap (last_given given) (take-suc ts i d h) ∙ last_given-append given (take i ts) (get_or ts i d)

hit-or : {A : Type 0} (o r : Option A) → is_some o ≡ true → option_or o r ≡ o
hit-or None r e = cc
hit-or (Some x) r e = refl

miss-or : {A : Type 0} (o r : Option A) → is_some o ≡ false → option_or o r ≡ r
miss-or None r e = refl
miss-or (Some x) r e = cc

-- one step of the search: the last token that is left gives something, or the search goes on before it
module _ {A : Type 0} (given : TokenRecord → Option A) (ts : List TokenRecord) (left i : ℕ) (t : TokenRecord) (o : Option A) (next : left ≡ suc i) (h : i < length ts) (is : t ≡ get_or ts i t) (gives : o ≡ given t)
    (rest : last_given given (take left ts) ≡ last_given given ts) where
  with-it : last_given given ts ≡ option_or o (last_given given (take i ts))
  with-it = sym rest ∙ last_given-step given ts left i t next h ∙ ap (λ p. option_or p (last_given given (take i ts))) (ap given (sym is) ∙ sym gives)

  pub last-found : is_some o ≡ true → o ≡ last_given given ts
  last-found e = sym (with-it ∙ hit-or o (last_given given (take i ts)) e)

  pub last-further : is_some o ≡ false → last_given given (take i ts) ≡ last_given given ts
  last-further e = sym (with-it ∙ miss-or o (last_given given (take i ts)) e)

-- ---- the state
or-else : {A : Type 0} (a b : Option A) (d : A) → unwrap_or a (unwrap_or b d) ≡ unwrap_or (option_or a b) d
or-else None b d = refl
or-else (Some x) b d = refl

-- What tokens give of a state is what the last of them gives.
part-after : {A : Type 0} (part : State → A) (given : TokenRecord → Option A) → ((s : State) (t : TokenRecord) → part (advanced s t) ≡ unwrap_or (given t) (part s)) →
    (s : State) (ts : List TokenRecord) → part (advanced_all s ts) ≡ unwrap_or (last_given given ts) (part s)
part-after part given h s [] = refl
part-after part given h s (t ∷ ts) =
    part-after part given h (advanced s t) ts ∙ ap (unwrap_or (last_given given ts)) (h s t) ∙ or-else (last_given given ts) (given t) (part s)

abbrev source_part : State → ℕ × ℕ × ℕ
source_part s = (s.source_id, s.src_line, s.src_col)

source-given : (s : State) (t : TokenRecord) → source_part (advanced s t) ≡ unwrap_or (source_given t) (source_part s)
source-given s t =
    elim t.source_id as (λ o. (unwrap_or o s.source_id, unwrap_or (option_map (λ _. t.src_line) o) s.src_line, unwrap_or (option_map (λ _. t.src_col) o) s.src_col)
    ≡ unwrap_or (option_map (λ id. (id, t.src_line, t.src_col)) o) (s.source_id, s.src_line, s.src_col)) [ None ↦ refl | Some id ↦ refl ]

last-given : {A : Type 0} (f : TokenRecord → A) (ts : List TokenRecord) (l : TokenRecord) → slice_get ts (length ts - 1) ≡ Some l → last_given (λ t. Some (f t)) ts ≡ Some (f l)
last-given f [] l e = cc
last-given f (t ∷ []) l e = let same : t ≡ l = cc in ap (λ u. Some (f u)) same
last-given f (t ∷ u ∷ ts) l e =
    let i : length (u ∷ ts) - 1 ≡ length ts = omega arith in
    let j : length (t ∷ u ∷ ts) - 1 ≡ suc (length ts) = omega arith in
    let rest = last-given f (u ∷ ts) l (ap (slice_get (u ∷ ts)) i ∙ ap (slice_get (t ∷ u ∷ ts)) (sym j) ∙ e) in
    ap (λ o. option_or o (Some (f t))) rest

-- the state after tokens, by the last one, the last source and the last name
pub state-by-last : (s : State) (ts : List TokenRecord) (l : TokenRecord) (line col : ℕ) (source : ℕ × ℕ × ℕ) (name : ℕ) → line ≡ l.dst_line → col ≡ l.dst_col → slice_get ts (length ts - 1) ≡ Some l →
    source ≡ unwrap_or (last_given source_given ts) (s.source_id, s.src_line, s.src_col) → name ≡ unwrap_or (last_given mapped_name ts) s.name_id →
    record { dst_line = line; dst_col = col; source_id = source.0; src_line = source.1; src_col = source.2; name_id = name } ≡ advanced_all s ts
state-by-last s ts l line col source name p q e f g =
    let a = advanced_all s ts in
    let lined : a.dst_line ≡ line = part-after (λ r. r.dst_line) (λ t. Some t.dst_line) (λ r t. refl) s ts ∙ ap (λ o. unwrap_or o s.dst_line) (last-given (λ t. t.dst_line) ts l e) ∙ sym p in
    let placed : a.dst_col ≡ col = part-after (λ r. r.dst_col) (λ t. Some t.dst_col) (λ r t. refl) s ts ∙ ap (λ o. unwrap_or o s.dst_col) (last-given (λ t. t.dst_col) ts l e) ∙ sym q in
    let src : source_part a ≡ source = part-after source_part source_given source-given s ts ∙ sym f in
    let named : a.name_id ≡ name = part-after (λ r. r.name_id) mapped_name (λ r t. refl) s ts ∙ sym g in
    sym (same-fields a line col source.0 source.1 source.2 name lined placed (ap (λ p. p.0) src) (ap (λ p. p.1) src) (ap (λ p. p.2) src) named)
