-- rows put into a line one after another
use Rattle.std.proofs.Common.{◌≡◌, ℕ, suc, ◌+◌, ◌<◌, ◌≤◌, List, ◌++◌, length, get_or, drop, Some, None, Option, sym, ap, ◌∙◌, append_assoc, append-nil, add-one, drop-cons}
use Rattle.std.proofs.lemmas.List.{drop_all}
use Rattle.span.specs.declared.span.Span.{Span}
use Rattle.law.specs.declared.ask.Reply.{Reply}
use Rattle.telling.specs.Replies.{ends_text, range_of, row_then, rows_text}

module _ (rows : List Reply) (i : ℕ) (line : List ℕ) {whole : List ℕ} (sofar : line ++ rows_text (drop i rows) ≡ whole) where
  pub all_told : length rows ≤ i → line ≡ whole
  all_told h = sym (append-nil line) ∙ ap (λ l. line ++ rows_text l) (sym (drop_all i rows h)) ∙ sofar

  module _ (d : Reply) (h : i < length rows) {o : Option Span} (is : o ≡ range_of (get_or rows i d)) where
    left : rows_text (drop i rows) ≡ row_then o (rows_text (drop (i + 1) rows))
    left = ap rows_text (drop-cons rows i d h) ∙ ap (λ r. row_then r (rows_text (drop (suc i) rows))) (sym is) ∙ ap (λ n. row_then o (rows_text (drop n rows))) (sym (add-one i))

    pub stopped : o ≡ None → line ≡ whole
    stopped e = sym (append-nil line) ∙ ap (λ l. line ++ l) (sym (left ∙ ap (λ r. row_then r (rows_text (drop (i + 1) rows))) e)) ∙ sofar

    pub one_more : {next : List ℕ} (s : Span) → o ≡ Some s → next ≡ line ++ ends_text s → next ++ rows_text (drop (i + 1) rows) ≡ whole
    one_more s e put = ap (λ l. l ++ rows_text (drop (i + 1) rows)) put ∙ append_assoc line (ends_text s) (rows_text (drop (i + 1) rows)) ∙ ap (λ l. line ++ l) (sym (left ∙ ap (λ r. row_then r (rows_text (drop (i + 1) rows))) e)) ∙ sofar
