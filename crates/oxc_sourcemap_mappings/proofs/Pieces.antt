-- Chunks and lists that are written.
use Rattle.std.proofs.Common.{◌≡◌, ℕ, ◌-◌, ◌≤◌, Bool, true, false, cond, ◌&&◌, ◌==◌, List, [], ◌∷◌}
use Rattle.std.proofs.Common.{◌++◌, length, take, drop, arith, refl, sym, ap, ◌∙◌, append_assoc}
use Rattle.std.proofs.Common.{subst, ◌+◌, nat_lt, nat_le, Option, Some, None, Result, Ok, Err, OnOk}
use Rattle.std.specs.List.{flat_map}
use Rattle.std.specs.Option.{option_map}
use Rattle.std.proofs.lemmas.Bool.{le-leb}
use Rattle.std.proofs.lemmas.Bool.Decides.{nat_tests}
use Rattle.std.proofs.lemmas.List.{append-nil, take_all, drop_all, length-take, length-drop}
use Rattle.oxc_sourcemap_tokens.specs.declared.errors.error.Error.{Error}
use Rattle.oxc_sourcemap_tokens.specs.declared.errors.error.Error.TheVariants.{LineOrder, BadChunks}
use Rattle.oxc_sourcemap_tokens.specs.declared.token.TokenChunk.{TokenChunk}
use Rattle.oxc_sourcemap_tokens.specs.Token.{TokenRecord}
use Rattle.oxc_sourcemap_mappings.specs.Faults.{◌orelse◌}
use Rattle.oxc_sourcemap_tokens.specs.State.{State, initial, state_after}
use Rattle.oxc_sourcemap_mappings.specs.Canonical.{token_text, canonical, has_none_before}
use Rattle.oxc_sourcemap_tokens.specs.LineOrder.{first_out_of_order, back_from}
use Rattle.oxc_sourcemap_tokens.specs.Chunks.{header, chunk_tokens, ChunksFitFrom, ChunksFit}
use Rattle.oxc_sourcemap_tokens.specs.Chunks.{chunk_from}
use Rattle.oxc_sourcemap_mappings.specs.ChunkTexts.{chunk_text, chunk_text_after, chunk_text_fault}
use Rattle.oxc_sourcemap_mappings.specs.ChunkTexts.{writing_fault}
use Rattle.oxc_sourcemap_tokens.specs.Steps.{advanced, advanced_all}
use Rattle.oxc_sourcemap_mappings.specs.Encoding.{text_from, AreWritten}
use Rattle.oxc_sourcemap_tokens.proofs.InOrder.{back_from-all, in_order}
use Rattle.oxc_sourcemap_mappings.proofs.Writing.{canonical-is}
use Rattle.oxc_sourcemap_tokens.proofs.Fits.{advanced_all-append, state_at-is, take-split}
use Rattle.oxc_sourcemap_tokens.proofs.Fits.{drop-split, back-shift, first_misfit-none, further}
use Rattle.oxc_sourcemap_tokens.proofs.Fits.{whole-fits}

and-true : (b : Bool) → (b && true) ≡ b
and-true true = refl
and-true false = refl

and-false : (b : Bool) → (b && false) ≡ false
and-false true = refl
and-false false = refl

text_from-append : (f : Bool) (s : State) (xs ys : List TokenRecord) → text_from f s (xs ++ ys) ≡ text_from f s xs ++ text_from (f && has_none_before xs) (advanced_all s xs) ys
text_from-append f s [] ys = ap (λ b. text_from b s ys) (sym (and-true f))
text_from-append f s (x ∷ xs) ys =
    ap (λ r. token_text f s x ++ r) (text_from-append false (advanced s x) xs ys)
    ∙ sym (append_assoc (token_text f s x) (text_from false (advanced s x) xs) (text_from false (advanced_all (advanced s x) xs) ys))
    ∙ ap (λ b. (token_text f s x ++ text_from false (advanced s x) xs) ++ text_from b (advanced_all (advanced s x) xs) ys) (sym (and-false f))

chunk_text_after-is : (c : TokenChunk) (seen ts : List TokenRecord) → chunk_text_after c seen ts ≡ text_from (c.start == 0 && has_none_before seen) (state_after (header c) seen) ts
unfolding chunk_text_after
chunk_text_after-is c seen [] = refl
chunk_text_after-is c seen (t ∷ ts) =
    ap (λ xs. token_text (c.start == 0 && has_none_before seen) (state_after (header c) seen) t ++ xs)
    (chunk_text_after-is c (t ∷ seen) ts ∙ ap (λ b. text_from b (advanced (state_after (header c) seen) t) ts) (and-false (c.start == 0)))

pub piece-is : (ts : List TokenRecord) (c : TokenChunk) → chunk_text ts c ≡ text_from (c.start == 0) (header c) (take (c.end - c.start) (drop c.start ts))
unfolding chunk_text
piece-is ts c = chunk_text_after-is c [] _ ∙ ap (λ b. text_from b (header c) (take (c.end - c.start) (drop c.start ts))) (and-true (c.start == 0))

has_none_before-length : (xs : List TokenRecord) → has_none_before xs ≡ (length xs == 0)
has_none_before-length [] = refl
has_none_before-length (x ∷ xs) = grind (arith, nat_tests)

flag : (end till : ℕ) (xs : List TokenRecord) → length xs ≡ till - end → end ≤ till → ((end == 0) && has_none_before xs) ≡ (till == 0)
flag end till xs l h = rw (has_none_before-length xs, l) (grind (arith, nat_tests))

pieces-from : (ts : List TokenRecord) (end : ℕ) (cs : List TokenChunk) → ChunksFitFrom ts end cs → flat_map (chunk_text ts) cs ≡ text_from (end == 0) (advanced_all initial (take end ts)) (drop end ts)
pieces-from ts end [] h = rw (drop_all end ts (omega arith))
pieces-from ts end (c ∷ cs) h =
    let f = h.0 in
    let s = advanced_all initial (take end ts) in
    let xs = take (c.end - end) (drop end ts) in
    let e = f.starts in
    let o : end ≤ c.end = (let k = f.ordered in omega arith) in
    let hd : header c ≡ s = f.true_header ∙ state_at-is ts c.start ∙ ap (λ k. advanced_all initial (take k ts)) e in
    let first : chunk_text ts c ≡ text_from (end == 0) s xs = piece-is ts c ∙ ap (λ q. text_from (c.start == 0) q (take (c.end - c.start) (drop c.start ts))) hd ∙ ap (λ k. text_from (k == 0) s (take (c.end - k) (drop k ts))) e in
    let len : length xs ≡ c.end - end = (let w = f.within in simp (length-take, length-drop) (omega arith)) in
    let rest : flat_map (chunk_text ts) cs ≡ text_from (c.end == 0) (advanced_all s xs) (drop c.end ts) =
    pieces-from ts c.end cs h.1 ∙ ap (λ q. text_from (c.end == 0) q (drop c.end ts)) (ap (advanced_all initial) (take-split end c.end ts o) ∙ advanced_all-append initial (take end ts) xs) in
    ap (λ p. p ++ flat_map (chunk_text ts) cs) first ∙ ap (λ r. text_from (end == 0) s xs ++ r) rest
    ∙ ap (λ b. text_from (end == 0) s xs ++ text_from b (advanced_all s xs) (drop c.end ts)) (sym (flag end c.end xs len o))
    ∙ sym (text_from-append (end == 0) s xs (drop c.end ts))
    ∙ ap (text_from (end == 0) s) (sym (drop-split end c.end ts o))

pub pieces-is : (ts : List TokenRecord) (cs : List TokenChunk) → ChunksFitFrom ts 0 cs → flat_map (chunk_text ts) cs ≡ canonical ts
pieces-is ts cs h = pieces-from ts 0 cs h ∙ sym (canonical-is ts)

-- ---- what is written is in order
clear-front : (o : Option ℕ) (f : ℕ → Error) (later more : Option Error) → (option_map f o) orelse later orelse more ≡ None → o ≡ None
clear-front None f later more e = refl
clear-front (Some i) f later more e = cc

pub writing-order : (ts : List TokenRecord) (chunks : Option (List TokenChunk)) → writing_fault ts chunks ≡ None → first_out_of_order ts ≡ None
writing-order ts chunks e = clear-front (first_out_of_order ts) (λ i. LineOrder i) _ _ e

fault-none : (b : Bool) (o : Option ℕ) → cond b (option_map (λ i. LineOrder i) o) (Some (BadChunks 0)) ≡ None → (b ≡ true) × (o ≡ None)
fault-none true None e = (refl, refl)
fault-none true (Some i) e = cc
fault-none false o e = cc

-- the tokens of a chunk that is written do not go back
pub written-in-order : (ts : List TokenRecord) (c : TokenChunk) → chunk_text_fault ts c ≡ None → back_from c.prev_dst_line 0 (chunk_tokens ts c) ≡ None
written-in-order ts c e = back-shift c.prev_dst_line c.start 0 (chunk_tokens ts c) (fault-none _ _ e).1

-- a chunk of tokens that do not go back
pub piece-clean : (ts : List TokenRecord) (c : TokenChunk) → (nat_le c.start c.end && nat_le c.end (length ts)) ≡ true → back_from c.prev_dst_line 0 (chunk_tokens ts c) ≡ None → chunk_text_fault ts c ≡ None
piece-clean ts c p e = rw (p, back-shift c.prev_dst_line 0 c.start (chunk_tokens ts c) e) refl

back_from-join : (line i j : ℕ) (xs ys : List TokenRecord) (s : State) → s.dst_line ≡ line → back_from line i xs ≡ None → back_from (advanced_all s xs).dst_line j ys ≡ None → back_from line i (xs ++ ys) ≡ None
back_from-join line i j [] ys s e h k = rw (← e) (back-shift s.dst_line j i ys k)
back_from-join line i j (x ∷ xs) ys s e h k =
    let q = in_order (nat_lt x.dst_line line) i _ h in
    rw q.0 (back_from-join x.dst_line (i + 1) j xs ys (advanced s x) refl q.1 k)

-- the tokens from this index on are in order
abbrev AreClean : List TokenRecord → ℕ → Type 0
AreClean ts i = back_from (advanced_all initial (take i ts)).dst_line 0 (drop i ts) ≡ None

clean-from : (ts : List TokenRecord) (end : ℕ) (cs : List TokenChunk) → ChunksFitFrom ts end cs → AreWritten ts cs → AreClean ts end
clean-from ts end [] h w = rw (drop_all end ts (omega (arith, h))) refl
clean-from ts end (c ∷ cs) h w =
    let f = h.0 in
    let xs = chunk_tokens ts c in
    let before = advanced_all initial (take c.start ts) in
    let head : header c ≡ before = f.true_header ∙ state_at-is ts c.start in
    let rest = clean-from ts c.end cs h.1 w.1 in
    let whole : xs ++ drop c.end ts ≡ drop c.start ts = sym (drop-split c.start c.end ts f.ordered) in
    let here : back_from before.dst_line 0 xs ≡ None = ap (λ s. back_from s.dst_line 0 xs) (sym head) ∙ written-in-order ts c w.0 in
    let next : back_from (advanced_all before xs).dst_line 0 (drop c.end ts) ≡ None =
    ap (λ s. back_from s.dst_line 0 (drop c.end ts)) (further ts before c.start c.start c.end refl f.ordered refl) ∙ rest in
    let order : back_from before.dst_line 0 (drop c.start ts) ≡ None = ap (back_from before.dst_line 0) (sym whole) ∙ back_from-join before.dst_line 0 0 xs (drop c.end ts) before refl here next in
    subst (AreClean ts) f.starts order

-- tokens whose chunks fit and are written one by one
module _ (ts : List TokenRecord) (cs : List TokenChunk) (fit : ChunksFit ts cs) (w : AreWritten ts cs) where
  pub chunks-clean : length ts ≤ 4294967295 → writing_fault ts (Some cs) ≡ None
  chunks-clean h =
      let order : first_out_of_order ts ≡ None = sym (back_from-all ts) ∙ clean-from ts 0 cs fit w in
      let small : nat_lt 4294967295 (length ts) ≡ false = grind (arith, nat_tests) in
      rw (order, first_misfit-none ts cs fit, small) refl

orelse-left : (a : Option Error) → ((a orelse None) orelse None) ≡ a
orelse-left None = refl
orelse-left (Some x) = refl

-- the one chunk of all tokens
module _ (ts : List TokenRecord) (w : TokenChunk) (e : w ≡ chunk_from initial 0 (length ts)) where
  pub whole-piece : chunk_text ts w ≡ canonical ts
  whole-piece = ap (chunk_text ts) e ∙ sym (append-nil (chunk_text ts (chunk_from initial 0 (length ts)))) ∙ pieces-is ts (chunk_from initial 0 (length ts) ∷ []) (whole-fits ts)

  pub whole-fault : length ts ≤ 4294967295 → chunk_text_fault ts w ≡ writing_fault ts None
  whole-fault h =
      let small : nat_lt 4294967295 (length ts) ≡ false = grind (arith, nat_tests) in
      let order : back_from 0 0 (take (length ts - 0) ts) ≡ first_out_of_order ts = ap (back_from 0 0) (take_all (length ts - 0) ts (omega arith)) ∙ back_from-all ts in
      ap (chunk_text_fault ts) e ∙ rw (le-leb 0 (length ts) (omega arith), le-leb (length ts) (length ts) (omega arith), order, small) (sym (orelse-left (option_map (λ i. LineOrder i) (first_out_of_order ts))))

pub on_ok-order : {A E : Type 0} (r : Result A E) (ts : List TokenRecord) (chunks : Option (List TokenChunk)) → OnOk r (writing_fault ts chunks ≡ None) → OnOk r (first_out_of_order ts ≡ None)
on_ok-order (Ok x) ts chunks h = writing-order ts chunks h
on_ok-order (Err e) ts chunks h = tt
