-- The length of a comment by the numbers of the texts that open and close one.
use Rattle.std.proofs.Common.{◌≡◌, ◌∙◌, ap, ap₂, sym, ℕ, List, true, false, ◌&&◌, if◌then◌else◌}
use Rattle.std.proofs.Math.Bool.{and-false}
use Rattle.matcher_code.specs.Comments.{can_delimit, comment_len}
use Rattle.matcher_code.specs.Lists.{CodeLists}
use Rattle.matcher_code.specs.Reading.{nested_len, text_of}

by_texts : (code : CodeLists) (i j : ℕ) (opening closing bs : List ℕ) → opening ≡ text_of code i → closing ≡ text_of code j
    → nested_len code i j bs ≡ (if can_delimit opening && can_delimit closing then comment_len opening closing bs else 0)
by_texts code i j opening closing bs e f = ap₂ (λ a b. if can_delimit a && can_delimit b then comment_len a b bs else 0) (sym e) (sym f)

pub len_of_texts : (code : CodeLists) (i j : ℕ) (opening closing bs : List ℕ) → opening ≡ text_of code i → closing ≡ text_of code j
    → can_delimit opening ≡ true → can_delimit closing ≡ true → comment_len opening closing bs ≡ nested_len code i j bs
len_of_texts code i j opening closing bs e f h k =
    sym (by_texts code i j opening closing bs e f ∙ ap₂ (λ a b. if a && b then comment_len opening closing bs else 0) h k)

pub no_opening : (code : CodeLists) (i j : ℕ) (opening closing bs : List ℕ) → opening ≡ text_of code i → closing ≡ text_of code j
    → can_delimit opening ≡ false → 0 ≡ nested_len code i j bs
no_opening code i j opening closing bs e f h =
    sym (by_texts code i j opening closing bs e f ∙ ap (λ a. if a && can_delimit closing then comment_len opening closing bs else 0) h)

pub no_closing : (code : CodeLists) (i j : ℕ) (opening closing bs : List ℕ) → opening ≡ text_of code i → closing ≡ text_of code j
    → can_delimit closing ≡ false → 0 ≡ nested_len code i j bs
no_closing code i j opening closing bs e f h =
    sym (by_texts code i j opening closing bs e f
    ∙ ap (λ b. if b then comment_len opening closing bs else 0) (ap (λ b. can_delimit opening && b) h ∙ and-false (can_delimit opening)))
