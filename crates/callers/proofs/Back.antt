-- What comes back of a sound map.
use Rattle.std.proofs.Common.{◌≡◌, ◌≢◌, refl, sym, ap, ◌∙◌, Option, Some, None, Result, Ok, Err}
use Rattle.std.specs.Result.{IfOk, IfErr}
use Rattle.oxc_sourcemap.specs.Error.{Error}
use Rattle.oxc_sourcemap.specs.Error.TheVariants.{VlqLeftover, VlqNoValues, VlqOverflow, BadJson}
use Rattle.oxc_sourcemap.specs.Error.TheVariants.{BadSegmentSize, BadSourceReference}
use Rattle.oxc_sourcemap.specs.Error.TheVariants.{BadNameReference, OutOfMemory, TooLarge}
use Rattle.oxc_sourcemap.specs.Error.TheVariants.{LineOrder, BadChunks, SeveralSources}
use Rattle.oxc_sourcemap.specs.Error.TheVariants.{SectionOrder, InputLineOrder}
use Rattle.oxc_sourcemap.specs.JsonRecord.{JsonRecord}
use Rattle.oxc_sourcemap.specs.ChunkTexts.{writing_fault}
use Rattle.oxc_sourcemap.specs.Record.{MapRecord}
use Rattle.oxc_sourcemap.specs.Decoded.{decoded}
use Rattle.oxc_sourcemap.specs.Errors.{unless}
use Rattle.oxc_sourcemap.specs.Encoded.{encoded, encoded_record}
use Rattle.oxc_sourcemap.specs.MapLaws.{ComesBack, rewritten}

same-ok : {A : Type 0} (x y : A) → ◌≡◌ {A = Result A Error} (Ok x) (Ok y) → x ≡ y
same-ok x y e = cc

no-fault : (o : Option Error) (r : MapRecord) (j : JsonRecord) → unless o (Ok (encoded_record r)) ≡ Ok j → o ≡ None
no-fault None r j e = refl
no-fault (Some fault) r j e = cc

-- the JSON source map that was written of a map is the encoded one
written-is : (r : MapRecord) (j : JsonRecord) → encoded r ≡ Ok j → encoded_record r ≡ j
written-is r j e =
    let clean = no-fault (writing_fault r.tokens r.token_chunks) r j e in
    same-ok (encoded_record r) j (sym (ap (λ o. unless o (Ok (encoded_record r))) clean) ∙ e)

module _ (r : MapRecord) (j : JsonRecord) (w : encoded r ≡ Ok j) (k : ComesBack r) where
  is-read : decoded j ≡ Ok (rewritten r)
  is-read = ap decoded (sym (written-is r j w)) ∙ k.is_read

  pub back-is : (back : MapRecord) → decoded j ≡ Ok back → back ≡ rewritten r
  back-is back e = same-ok back (rewritten r) (sym e ∙ is-read)

  pub back-error : (e : Error) → decoded j ≡ Err e → ⊥
  back-error e h = let ok = is-read in cc

pub no-error : (r : MapRecord) (e : Error) → encoded r ≡ Ok (encoded_record r) → encoded r ≡ Err e → ⊥
no-error r e w h = cc

-- a property of a value, if there is one, may be weakened
pub if_ok : {A E : Type 0} (P Q : A → Type 0) (r : Result A E) → ((x : A) → P x → Q x) → IfOk r P → IfOk r Q
if_ok P Q (Ok x) f h = f x h
if_ok P Q (Err e) f h = h

pub if_err : {A E : Type 0} (P Q : E → Type 0) (r : Result A E) → ((e : E) → P e → Q e) → IfErr r P → IfErr r Q
if_err P Q (Ok x) f h = h
if_err P Q (Err e) f h = f e h

-- an error that is no other one is want of memory
pub only-memory : (e : Error) → ((e ≢ OutOfMemory) → ⊥) → e ≡ OutOfMemory
only-memory VlqLeftover h = absurd (h (λ q. cc))
only-memory VlqNoValues h = absurd (h (λ q. cc))
only-memory VlqOverflow h = absurd (h (λ q. cc))
only-memory (BadJson f) h = absurd (h (λ q. cc))
only-memory (BadSegmentSize n) h = absurd (h (λ q. cc))
only-memory (BadSourceReference n) h = absurd (h (λ q. cc))
only-memory (BadNameReference n) h = absurd (h (λ q. cc))
only-memory OutOfMemory h = refl
only-memory TooLarge h = absurd (h (λ q. cc))
only-memory (LineOrder i) h = absurd (h (λ q. cc))
only-memory (BadChunks k) h = absurd (h (λ q. cc))
only-memory (SeveralSources n) h = absurd (h (λ q. cc))
only-memory (SectionOrder k) h = absurd (h (λ q. cc))
only-memory (InputLineOrder k) h = absurd (h (λ q. cc))
