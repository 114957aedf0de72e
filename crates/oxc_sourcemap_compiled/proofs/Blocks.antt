-- Fields and rows of blocks.
use Rattle.std.proofs.Common.{◌≡◌, ℕ, zero, suc, ◌<◌, ap, ◌∙◌, List, true, false, refl, arith}
use Rattle.oxc_sourcemap_compiled.specs.Fields.{row_in, is_placed, placed_row, empty_row}
use Rattle.oxc_sourcemap_compiled.specs.Fields.{field_in, field_of, row_field}
use Rattle.oxc_sourcemap_compiled.specs.declared.fields.Row.{Row}
use Rattle.oxc_sourcemap_compiled.specs.declared.layout.Header.{Header}
use Rattle.oxc_sourcemap_compiled.specs.CompiledMeaning.{line_in, number_in_list}
use Rattle.oxc_sourcemap_compiled.specs.declared.fields.Field.{Field}

-- fields with the same numbers
pub same-field : {l l' f f' w w' : ℕ} → l ≡ l' → f ≡ f' → w ≡ w' → field_of l f w ≡ field_of l' f' w'
same-field {l} {l'} {f} {f'} {w} {w'} p o t = ap (λ x. field_of x f w) p ∙ ap (λ x. field_of l' x w) o ∙ ap (field_of l' f') t

-- rows with the same place, stride and fields
pub same-row : {a a' s s' : ℕ} {c c' i i' l l' o o' n n' : Field} → a ≡ a' → s ≡ s' → c ≡ c' → i ≡ i' → l ≡ l' → o ≡ o' → n ≡ n'
    → ◌≡◌ {A = Row} (record { at = a; stride = s; column = c; source = i; src_line = l; src_col = o; name = n })
    (record { at = a'; stride = s'; column = c'; source = i'; src_line = l'; src_col = o'; name = n' })
same-row {a} {a'} {s} {s'} {c} {c'} {i} {i'} {l} {l'} {o} {o'} {n} {n'} ea es ec ei el eo en =
    ap (λ x. record { at = x; stride = s; column = c; source = i; src_line = l; src_col = o; name = n }) ea
    ∙ ap (λ x. record { at = a'; stride = x; column = c; source = i; src_line = l; src_col = o; name = n }) es
    ∙ ap (λ x. record { at = a'; stride = s'; column = x; source = i; src_line = l; src_col = o; name = n }) ec
    ∙ ap (λ x. record { at = a'; stride = s'; column = c'; source = x; src_line = l; src_col = o; name = n }) ei
    ∙ ap (λ x. record { at = a'; stride = s'; column = c'; source = i'; src_line = x; src_col = o; name = n }) el
    ∙ ap (λ x. record { at = a'; stride = s'; column = c'; source = i'; src_line = l'; src_col = x; name = n }) eo
    ∙ ap (λ x. record { at = a'; stride = s'; column = c'; source = i'; src_line = l'; src_col = o'; name = x }) en

-- the row of a block that is placed, and of another
pub row-placed : (bytes : List ℕ) (h : Header) (b : ℕ) → is_placed bytes h b ≡ true → row_in bytes h b ≡ placed_row bytes h b
unfolding row_in
row-placed bytes h b e = rw e refl

pub row-empty : (bytes : List ℕ) (h : Header) (b : ℕ) → is_placed bytes h b ≡ false → row_in bytes h b ≡ empty_row
unfolding row_in
row-empty bytes h b e = rw e refl

-- the fields of a row that is placed, by their numbers
pub field-placed : (k : ℕ) (bytes : List ℕ) (h : Header) (b : ℕ) → k < 5 → row_field k (placed_row bytes h b) ≡ field_in bytes h b k
field-placed zero bytes h b lt = refl
field-placed (suc zero) bytes h b lt = refl
field-placed (suc (suc zero)) bytes h b lt = refl
field-placed (suc (suc (suc zero))) bytes h b lt = refl
field-placed (suc (suc (suc (suc zero)))) bytes h b lt = refl
field-placed (suc (suc (suc (suc (suc k))))) bytes h b lt = absurd (omega (arith, lt))

-- the line of an entry, where these are listed
pub line_in-listed : (bytes : List ℕ) (h : Header) (k : ℕ) → h.has_line_numbers ≡ true → line_in bytes h k ≡ number_in_list bytes h k
line_in-listed bytes h k e = rw e refl

-- and where they are not
pub line_in-all : (bytes : List ℕ) (h : Header) (k : ℕ) → h.has_line_numbers ≡ false → line_in bytes h k ≡ k
line_in-all bytes h k e = rw e refl
