use Rattle.command_lines.proofs.Words.{◌≡◌, ◌++◌, ◌∷◌, [], List, ℕ, ap, ◌∙◌, arith, decimal, string_bytes}
use Rattle.command_lines.proofs.ValueSteps.{line_first, line_more}
use Rattle.command_lines.proofs.values.line_of.Goals as goal
use Rattle.command_lines.proofs.values.line_of.Goals.{then-k-gt0+in_ok-push, else-k-gt0}

pub loop-k-preserved : goal.loop-k-preserved
loop-k-preserved c =
    let values = c.args.values.now in
    let value = c.index-values-k.result in
    let before = string_bytes c.loop-k.line in
    let digits : string_bytes c.push_str.new.self ≡ string_bytes c.if-k-gt0.line ++ decimal value =
    c.in_ok-push_str.ensures.bytes
    ∙ ap (λ (xs : List ℕ). string_bytes c.if-k-gt0.line ++ xs)
    (c.deref.ensures ∙ c.in_ok-digits.ensures.ok ∙ ap (λ (n : ℕ). decimal n) c.symbol.view_is) in
    elim c.if-k-gt0.branch [
      | then-k-gt0+in_ok-push w ↦
          let blank : string_bytes w.push.new.self ≡ before ++ 32 ∷ [] = w.in_ok-push.ensures.bytes
          ∙ ap (λ (xs : List ℕ). before ++ xs) (w.in_ok-push.ensures.ascii (omega arith)) in
          digits ∙ ap (λ (xs : List ℕ). xs ++ decimal value) (ap string_bytes w.line-is ∙ blank)
          ∙ line_more values before c.loop-k.k value (omega (arith, w.if-k-gt0.true)) c.loop-k-test.true
          c.index-values-k.is c.loop-k.invariant
      | else-k-gt0 w ↦ digits ∙ ap (λ (xs : List ℕ). xs ++ decimal value) (ap string_bytes w.line-is)
          ∙ line_first values before c.loop-k.k value (omega (arith, w.if-k-gt0.false)) c.loop-k-test.true
          c.index-values-k.is c.loop-k.invariant
    ]
