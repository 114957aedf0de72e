-- Chunks that fit, and the state at their starts and after the last of them.
use Rattle.std.proofs.Common.{◌≡◌, ℕ, zero, suc, ◌+◌, ◌-◌, ◌<◌, ◌≤◌, Bool, true, false, cond, ◌&&◌}
use Rattle.std.proofs.Common.{◌==◌, List, [], ◌∷◌, ◌++◌, length, get_or, if◌then◌else◌, take, drop}
use Rattle.std.proofs.Common.{arith, refl, sym, ap, ◌∙◌, subst, slice_get, nat_lt, nat_le, Option}
use Rattle.std.proofs.Common.{Some, None, ◌↔◌}
use Rattle.std.specs.Option.{IsNone, is_some}
use mathlib.Core.List.{reverse_aux}
use Rattle.std.proofs.Math.Seq.{take-add}
use Rattle.std.proofs.lemmas.Bool.{eqb-true as eqb-eq, leb-true, eq-eqb, le-leb}
use Rattle.std.proofs.lemmas.List.{take-append-drop, drop-drop, drop_more}
use Rattle.oxc_sourcemap_tokens.specs.declared.token.TokenChunk.{TokenChunk}
use Rattle.oxc_sourcemap_tokens.specs.Token.{TokenRecord}
use Rattle.oxc_sourcemap_tokens.specs.State.{State, initial, state_after, state_at}
use Rattle.oxc_sourcemap_tokens.specs.LineOrder.{back_from}
use Rattle.oxc_sourcemap_tokens.specs.Chunks.{header, chunk_tokens, ChunkFits, ChunksFitFrom}
use Rattle.oxc_sourcemap_tokens.specs.Chunks.{ChunksFit, is_same_state, is_fitting_chunk}
use Rattle.oxc_sourcemap_tokens.specs.Chunks.{first_misfit_from, first_misfit, chunk_from}
use Rattle.oxc_sourcemap_tokens.specs.Steps.{advanced, advanced_all}
use Rattle.oxc_sourcemap_tokens.proofs.InOrder.{in_order}

pub advanced_all-append : (s : State) (xs ys : List TokenRecord) → advanced_all s (xs ++ ys) ≡ advanced_all (advanced_all s xs) ys
advanced_all-append s [] ys = refl
advanced_all-append s (x ∷ xs) ys = advanced_all-append (advanced s x) xs ys

after-is : (h : State) (xs seen : List TokenRecord) → state_after h (reverse_aux xs seen) ≡ advanced_all (state_after h seen) xs
after-is h [] seen = refl
after-is h (x ∷ xs) seen = after-is h xs (x ∷ seen)

pub state_at-is : (ts : List TokenRecord) (i : ℕ) → state_at ts i ≡ advanced_all initial (take i ts)
state_at-is ts i = after-is initial (take i ts) []

pub take-split : (m n : ℕ) (ts : List TokenRecord) → m ≤ n → take n ts ≡ take m ts ++ take (n - m) (drop m ts)
take-split m n ts h = let e : n ≡ m + (n - m) = omega arith in ap (λ k. take k ts) e ∙ take-add m (n - m) ts

pub drop-split : (m n : ℕ) (ts : List TokenRecord) → m ≤ n → drop m ts ≡ take (n - m) (drop m ts) ++ drop n ts
drop-split m n ts h = let e : m + (n - m) ≡ n = omega arith in sym (take-append-drop (n - m) (drop m ts)) ∙ ap (λ xs. take (n - m) (drop m ts) ++ xs) (drop-drop (n - m) m ts ∙ ap (λ k. drop k ts) e)

-- the index of the first token doesn't matter if the list is in order
pub back-shift : (line i j : ℕ) (ts : List TokenRecord) → back_from line i ts ≡ None → back_from line j ts ≡ None
back-shift line i j [] e = refl
back-shift line i j (t ∷ ts) e =
    let q = in_order (nat_lt t.dst_line line) i _ e in
    rw q.0 (back-shift t.dst_line (i + 1) (j + 1) ts q.1)

-- ---- chunks that fit, by tests
pub andb : (a b : Bool) → (a && b) ≡ true → (a ≡ true) × (b ≡ true)
andb true b e = (refl, e)
andb false b e = cc

pub same-fields : (a : State) (l c s sl sc n : ℕ) → a.dst_line ≡ l → a.dst_col ≡ c → a.source_id ≡ s → a.src_line ≡ sl → a.src_col ≡ sc → a.name_id ≡ n → a ≡ record { dst_line = l; dst_col = c; source_id = s; src_line = sl; src_col = sc; name_id = n }
same-fields a l c s sl sc n e1 e2 e3 e4 e5 e6 = rw (← e1, ← e2, ← e3, ← e4, ← e5, ← e6)

is_same_state-equal : (a b : State) → is_same_state a b ≡ true → a ≡ b
is_same_state-equal a b e =
    let p1 = andb _ _ e in let p2 = andb _ _ p1.1 in let p3 = andb _ _ p2.1 in let p4 = andb _ _ p3.1 in let p5 = andb _ _ p4.1 in
    let e1 : a.dst_line ≡ b.dst_line = eqb-eq _ _ p1.0 in let e2 : a.dst_col ≡ b.dst_col = eqb-eq _ _ p2.0 in let e3 : a.source_id ≡ b.source_id = eqb-eq _ _ p3.0 in
    let e4 : a.src_line ≡ b.src_line = eqb-eq _ _ p4.0 in let e5 : a.src_col ≡ b.src_col = eqb-eq _ _ p5.0 in let e6 : a.name_id ≡ b.name_id = eqb-eq _ _ p5.1 in
    same-fields a b.dst_line b.dst_col b.source_id b.src_line b.src_col b.name_id e1 e2 e3 e4 e5 e6

if-none : (b : Bool) (k : ℕ) (o : Option ℕ) → cond b o (Some k) ≡ None → (b ≡ true) × (o ≡ None)
if-none true k o e = (refl, e)
if-none false k o e = cc

pub first_misfit_from-none : (ts : List TokenRecord) (end k : ℕ) (cs : List TokenChunk) → first_misfit_from ts end k cs ≡ None → ChunksFitFrom ts end cs
first_misfit_from-none ts end k [] e = (let t = if-none (end == length ts) k None e in eqb-eq _ _ t.0)
first_misfit_from-none ts end k (c ∷ cs) e =
    let t = if-none _ k _ e in
    let p1 = andb (c.start == end) (nat_le c.start c.end && (nat_le c.end (length ts) && is_same_state (header c) (state_at ts c.start))) t.0 in
    let p2 = andb (nat_le c.start c.end) (nat_le c.end (length ts) && is_same_state (header c) (state_at ts c.start)) p1.1 in
    let p3 = andb (nat_le c.end (length ts)) (is_same_state (header c) (state_at ts c.start)) p2.1 in
    (record { starts = eqb-eq _ _ p1.0; ordered = leb-true _ _ p2.0; within = leb-true _ _ p3.0; true_header = is_same_state-equal _ _ p3.1 }, first_misfit_from-none ts c.end (k + 1) cs t.1)

and_false-right : (a b : Bool) → b ≡ false → (a && b) ≡ false
and_false-right true b e = e
and_false-right false b e = refl

both-true : (a b : Bool) → a ≡ true → b ≡ true → (a && b) ≡ true
both-true a b e f = rw (e, f)

pick-no : (b : Bool) (x y : Option ℕ) → b ≡ false → cond b x y ≡ y
pick-no b x y e = rw e

pick-yes : (b : Bool) (x y : Option ℕ) → b ≡ true → cond b x y ≡ x
pick-yes b x y e = rw e

module _ (ts : List TokenRecord) (end : ℕ) (cs : List TokenChunk) (k : ℕ) (d : TokenChunk) (h : k < length cs) where
  first_misfit-more : first_misfit_from ts end k (drop k cs) ≡ (if is_fitting_chunk ts end (get_or cs k d) then first_misfit_from ts (get_or cs k d).end (k + 1) (drop (k + 1) cs) else Some k)
  first_misfit-more = ap (first_misfit_from ts end k) (drop_more cs k d h)

  pub first_misfit-header : (s : State) → (get_or cs k d).start ≡ end → s ≡ advanced_all initial (take end ts) → is_same_state (header (get_or cs k d)) s ≡ false → first_misfit_from ts end k (drop k cs) ≡ Some k
  first_misfit-header s e i n =
      let q : is_same_state (header (get_or cs k d)) (state_at ts (get_or cs k d).start) ≡ false = ap (is_same_state (header (get_or cs k d))) (state_at-is ts (get_or cs k d).start ∙ ap (λ j. advanced_all initial (take j ts)) e ∙ sym i) ∙ n in
      let f : is_fitting_chunk ts end (get_or cs k d) ≡ false = and_false-right ((get_or cs k d).start == end) (nat_le (get_or cs k d).start (get_or cs k d).end && (nat_le (get_or cs k d).end (length ts) && is_same_state (header (get_or cs k d)) (state_at ts (get_or cs k d).start))) (and_false-right (nat_le (get_or cs k d).start (get_or cs k d).end) (nat_le (get_or cs k d).end (length ts) && is_same_state (header (get_or cs k d)) (state_at ts (get_or cs k d).start)) (and_false-right (nat_le (get_or cs k d).end (length ts)) (is_same_state (header (get_or cs k d)) (state_at ts (get_or cs k d).start)) q)) in
      first_misfit-more ∙ pick-no _ _ _ f

  pub first_misfit-step : (s : State) → (get_or cs k d).start ≡ end → (get_or cs k d).start ≤ (get_or cs k d).end → (get_or cs k d).end ≤ length ts → s ≡ advanced_all initial (take end ts) → is_same_state (header (get_or cs k d)) s ≡ true → first_misfit_from ts end k (drop k cs) ≡ first_misfit_from ts (get_or cs k d).end (k + 1) (drop (k + 1) cs)
  first_misfit-step s e o w i y =
      let q : is_same_state (header (get_or cs k d)) (state_at ts (get_or cs k d).start) ≡ true = ap (is_same_state (header (get_or cs k d))) (state_at-is ts (get_or cs k d).start ∙ ap (λ j. advanced_all initial (take j ts)) e ∙ sym i) ∙ y in
      let f : is_fitting_chunk ts end (get_or cs k d) ≡ true = both-true _ _ (eq-eqb _ _ e) (both-true _ _ (le-leb _ _ o) (both-true _ _ (le-leb _ _ w) q)) in
      first_misfit-more ∙ pick-yes _ _ _ f

pub further : (ts : List TokenRecord) (s : State) (done st en : ℕ) → st ≡ done → st ≤ en → s ≡ advanced_all initial (take done ts) → advanced_all s (take (en - st) (drop st ts)) ≡ advanced_all initial (take en ts)
further ts s done st en e o i =
    ap (λ k. advanced_all s (take (en - k) (drop k ts))) e ∙ ap (λ q. advanced_all q (take (en - done) (drop done ts))) i
    ∙ sym (advanced_all-append initial (take done ts) (take (en - done) (drop done ts))) ∙ ap (advanced_all initial) (sym (take-split done en ts (omega arith)))

is_same_state-same : (s : State) → is_same_state s s ≡ true
is_same_state-same s =
    both-true _ _ (eq-eqb s.dst_line s.dst_line refl) (both-true _ _ (eq-eqb s.dst_col s.dst_col refl) (both-true _ _ (eq-eqb s.source_id s.source_id refl)
    (both-true _ _ (eq-eqb s.src_line s.src_line refl) (both-true _ _ (eq-eqb s.src_col s.src_col refl) (eq-eqb s.name_id s.name_id refl)))))

is_fitting_chunk-fits : (ts : List TokenRecord) (end : ℕ) (c : TokenChunk) → ChunkFits ts end c → is_fitting_chunk ts end c ≡ true
is_fitting_chunk-fits ts end c f =
    let same : is_same_state (header c) (state_at ts c.start) ≡ true = ap (λ s. is_same_state (header c) s) (sym f.true_header) ∙ is_same_state-same (header c) in
    both-true _ _ (eq-eqb _ _ f.starts) (both-true _ _ (le-leb _ _ f.ordered) (both-true _ _ (le-leb _ _ f.within) same))

first_misfit_from-fits : (ts : List TokenRecord) (end k : ℕ) (cs : List TokenChunk) → ChunksFitFrom ts end cs → first_misfit_from ts end k cs ≡ None
first_misfit_from-fits ts end k [] h = pick-yes _ _ _ (eq-eqb end (length ts) h)
first_misfit_from-fits ts end k (c ∷ cs) h = pick-yes _ _ _ (is_fitting_chunk-fits ts end c h.0) ∙ first_misfit_from-fits ts c.end (k + 1) cs h.1

pub first_misfit-none : (ts : List TokenRecord) (cs : List TokenChunk) → ChunksFit ts cs → first_misfit ts cs ≡ None
first_misfit-none ts cs h = first_misfit_from-fits ts 0 0 cs h

is-none : (o : Option ℕ) → IsNone o → o ≡ None
is-none None h = refl
is-none (Some k) h = cc

-- the chunks fit exactly where there is no first misfit
pub first_misfit-fits : (ts : List TokenRecord) (cs : List TokenChunk) (o : Option ℕ) → o ≡ first_misfit ts cs → IsNone o ↔ ChunksFit ts cs
first_misfit-fits ts cs o e = (
  λ n. first_misfit_from-none ts 0 0 cs (sym e ∙ is-none o n),
  λ h. ap is_some (e ∙ first_misfit_from-fits ts 0 0 cs h),
)

-- the one chunk of a whole list fits
pub whole-fits : (ts : List TokenRecord) → ChunksFit ts (chunk_from initial 0 (length ts) ∷ [])
whole-fits ts = (record { starts = refl; ordered = omega arith; within = omega arith; true_header = refl }, refl)

last-fits-at : (ts : List TokenRecord) (i n : ℕ) (cs : List TokenChunk) (c : TokenChunk) → ChunksFitFrom ts i cs → length cs ≡ suc n → slice_get cs n ≡ Some c → ChunkFits ts c.start c × (c.end ≡ length ts)
last-fits-at ts i n [] c h e g = absurd (omega (arith, e))
last-fits-at ts i zero (x ∷ []) c h e g =
    let same : x ≡ c = cc in
    subst (λ y. ChunkFits ts y.start y × (y.end ≡ length ts)) same (record { starts = refl; ordered = h.0.ordered; within = h.0.within; true_header = h.0.true_header }, h.1)
last-fits-at ts i (suc n) (x ∷ []) c h e g = absurd (omega (arith, e))
last-fits-at ts i zero (x ∷ y ∷ cs) c h e g = absurd (omega (arith, e))
last-fits-at ts i (suc n) (x ∷ y ∷ cs) c h e g = last-fits-at ts x.end n (y ∷ cs) c h.1 (omega (arith, e)) g

-- the last of chunks that fit ends where the tokens end
pub last-fits : (ts : List TokenRecord) (cs : List TokenChunk) (c : TokenChunk) → ChunksFit ts cs → slice_get cs (length cs - 1) ≡ Some c → ChunkFits ts c.start c × (c.end ≡ length ts)
last-fits ts [] c h e = cc
last-fits ts (x ∷ cs) c h e = last-fits-at ts 0 (length (x ∷ cs) - 1) (x ∷ cs) c h (omega arith) e

-- the state after the last chunk is the state after all tokens
pub after-last : (ts : List TokenRecord) (c : TokenChunk) → ChunkFits ts c.start c → c.end ≡ length ts → advanced_all (header c) (chunk_tokens ts c) ≡ state_at ts (length ts)
after-last ts c f e =
    ap (λ s. advanced_all s (chunk_tokens ts c)) (f.true_header ∙ state_at-is ts c.start)
    ∙ sym (advanced_all-append initial (take c.start ts) (chunk_tokens ts c))
    ∙ ap (advanced_all initial) (sym (take-split c.start c.end ts f.ordered) ∙ ap (λ n. take n ts) e)
    ∙ sym (state_at-is ts (length ts))
