use Rattle.std.proofs.Common.{◌++◌, ◌∷◌, [], refl, subst}
use Rattle.vpg_why.specs.Found.{IsSought}
use Rattle.vpg_why.specs.declared.searching.Found.{Found}
use Rattle.vpg_why.proofs.Distinct.{yes_no, yes_unsettled, no_yes, no_unsettled, unsettled_yes, unsettled_no}
use Rattle.vpg_why.proofs.Ahead.{loss_learned, product_learned}
use Rattle.vpg_why.proofs.foreseeing.learn.Goals as goal

pub returns-in_ok-push-in-Product-clause-yes : goal.returns-in_ok-push-in-Product-clause-yes
returns-in_ok-push-in-Product-clause-yes c e game diagram aim own sought =
    let s = subst (λ (f : Found). IsSought game diagram aim (own ++ c.args.choice ∷ []) f) c.in-Product.is sought in
    (c.in-Product.example.features.items, s.0, s.1)

pub returns-in_ok-push-in-Product-clause-no : goal.returns-in_ok-push-in-Product-clause-no
returns-in_ok-push-in-Product-clause-no c e = absurd (yes_no e)

pub returns-in_ok-push-in-Product-clause-settled : goal.returns-in_ok-push-in-Product-clause-settled
returns-in_ok-push-in-Product-clause-settled c s e = yes_unsettled e

pub returns-in_ok-push-in-Product-clause-findings : goal.returns-in_ok-push-in-Product-clause-findings
returns-in_ok-push-in-Product-clause-findings c game diagram aim own less sought are =
    product_learned game diagram aim own c.args.choice c.args.findings.now _ c.in-Product.example c.in_ok-push-in-Product.ensures.items refl
    (subst (λ (f : Found). IsSought game diagram aim (own ++ c.args.choice ∷ []) f) c.in-Product.is sought) are

pub returns-in_ok-push-in-Nothing-clause-yes : goal.returns-in_ok-push-in-Nothing-clause-yes
returns-in_ok-push-in-Nothing-clause-yes c e = absurd (no_yes e)

pub returns-in_ok-push-in-Nothing-clause-no : goal.returns-in_ok-push-in-Nothing-clause-no
returns-in_ok-push-in-Nothing-clause-no c e = c.in-Nothing.is

pub returns-in_ok-push-in-Nothing-clause-settled : goal.returns-in_ok-push-in-Nothing-clause-settled
returns-in_ok-push-in-Nothing-clause-settled c s e = no_unsettled e

pub returns-in_ok-push-in-Nothing-clause-findings : goal.returns-in_ok-push-in-Nothing-clause-findings
returns-in_ok-push-in-Nothing-clause-findings c game diagram aim own less sought are =
    loss_learned game diagram aim own c.args.choice c.args.findings.now _ refl c.in_ok-push-in-Nothing.ensures.items less
    (subst (λ (f : Found). IsSought game diagram aim (own ++ c.args.choice ∷ []) f) c.in-Nothing.is sought) are

pub returns-in-Unsettled-clause-yes : goal.returns-in-Unsettled-clause-yes
returns-in-Unsettled-clause-yes c e = absurd (unsettled_yes e)

pub returns-in-Unsettled-clause-no : goal.returns-in-Unsettled-clause-no
returns-in-Unsettled-clause-no c e = absurd (unsettled_no e)

pub returns-in-Unsettled-clause-settled : goal.returns-in-Unsettled-clause-settled
returns-in-Unsettled-clause-settled c s e = s c.in-Unsettled.is
