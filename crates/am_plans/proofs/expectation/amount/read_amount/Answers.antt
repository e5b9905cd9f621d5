use Rattle.std.proofs.Common.{◌≡◌, ◌∙◌, ◌&&◌, ◌||◌, Bool, Some, codes, false, ap, subst, sym}
use Rattle.serde_json.specs.Find.{as_bool, get_member}
use Rattle.serde_json.specs.View.{members_view}
use Rattle.am_json.proofs.Decoding.{decoded_or, handed_on, refused_or}
use Rattle.am_plans.proofs.Decodings.{none_read, one_flag, same_some, true_false}
use Rattle.am_plans.specs.Expected.{IsAmountIn, amount_of, says_content}
use Rattle.am_plans.proofs.expectation.amount.read_amount.Goals as goal

pub returns-clause-decoded : goal.returns-clause-decoded
returns-clause-decoded c =
    let members = members_view c.args.item.now.members in
    record {
      is_none = c.in_ok-is_none.is_none;
      none = decoded_or as_bool false c.in_ok-is_none.is_none (get_member (codes "none") members) c.in_ok-is_none.ensures.value;
      is_never = c.in_ok-is_never.is_never;
      never = decoded_or as_bool false c.in_ok-is_never.is_never (get_member (codes "never") members) c.in_ok-is_never.ensures.value;
      counted = c.in_ok-count.count;
      count = c.in_ok-count.ensures.number;
      most = c.in_ok-at_most.at_most;
      at_most = c.in_ok-at_most.ensures.number;
      amount_is = subst (λ (b : Bool). amount_of b c.in_ok-count.count c.in_ok-at_most.at_most ≡ Some c.in_ok-amount.amount) c.says_never.ensures
          c.in_ok-amount.ensures.amount;
      alone = c.in_ok-check_alone.ensures.alone;
      once = c.in_ok-check_once.ensures.once;
    }

pub returns-in_err-is_none-clause-refused : goal.returns-in_err-is_none-clause-refused
returns-in_err-is_none-clause-refused c =
    handed_on (IsAmountIn (members_view c.args.item.now.members)) c.from_residual.result c.in_err-is_none.field-0.0 c.from_residual.ensures.1
    (λ refusal x decoded. refused_or as_bool false decoded.is_none (get_member (codes "none") (members_view c.args.item.now.members)) c.in_err-is_none.field-0.0 c.in_err-is_none.ensures.value decoded.none)

pub returns-in_err-is_never-clause-refused : goal.returns-in_err-is_never-clause-refused
returns-in_err-is_never-clause-refused c =
    handed_on (IsAmountIn (members_view c.args.item.now.members)) c.from_residual-in_err-is_never.result c.in_err-is_never.field-0.0 c.from_residual-in_err-is_never.ensures.1
    (λ refusal x decoded. refused_or as_bool false decoded.is_never (get_member (codes "never") (members_view c.args.item.now.members)) c.in_err-is_never.field-0.0 c.in_err-is_never.ensures.value decoded.never)

pub returns-in_err-count-clause-refused : goal.returns-in_err-count-clause-refused
returns-in_err-count-clause-refused c =
    handed_on (IsAmountIn (members_view c.args.item.now.members)) c.from_residual-in_err-count.result c.in_err-count.field-0.0 c.from_residual-in_err-count.ensures.1
    (λ refusal x decoded. none_read _ _ c.in_err-count.ensures.refused decoded.count)

pub returns-in_err-at_most-clause-refused : goal.returns-in_err-at_most-clause-refused
returns-in_err-at_most-clause-refused c =
    handed_on (IsAmountIn (members_view c.args.item.now.members)) c.from_residual-in_err-at_most.result c.in_err-at_most.field-0.0 c.from_residual-in_err-at_most.ensures.1
    (λ refusal x decoded. none_read _ _ c.in_err-at_most.ensures.refused decoded.at_most)

pub returns-in_err-check_alone-clause-refused : goal.returns-in_err-check_alone-clause-refused
returns-in_err-check_alone-clause-refused c =
    handed_on (IsAmountIn (members_view c.args.item.now.members)) c.from_residual-in_err-check_alone.result c.in_err-check_alone.field-0.0 c.from_residual-in_err-check_alone.ensures.1
    (λ refusal x decoded.
    let none = one_flag (get_member (codes "none") (members_view c.args.item.now.members)) decoded.is_none c.in_ok-is_none.is_none decoded.none c.in_ok-is_none.ensures.value in
    true_false (ap (λ b. b && says_content (members_view c.args.item.now.members)) (sym none)) c.in_err-check_alone.ensures.refused decoded.alone)

pub returns-in_err-check_once-clause-refused : goal.returns-in_err-check_once-clause-refused
returns-in_err-check_once-clause-refused c =
    handed_on (IsAmountIn (members_view c.args.item.now.members)) c.from_residual-in_err-check_once.result c.in_err-check_once.field-0.0 c.from_residual-in_err-check_once.ensures.1
    (λ refusal x decoded.
    let none = one_flag (get_member (codes "none") (members_view c.args.item.now.members)) decoded.is_none c.in_ok-is_none.is_none decoded.none c.in_ok-is_none.ensures.value in
    let never = one_flag (get_member (codes "never") (members_view c.args.item.now.members)) decoded.is_never c.in_ok-is_never.is_never decoded.never c.in_ok-is_never.ensures.value in
    true_false (λ i. sym none i && sym never i) c.in_err-check_once.ensures.refused decoded.once)

pub returns-in_err-amount-clause-refused : goal.returns-in_err-amount-clause-refused
returns-in_err-amount-clause-refused c =
    handed_on (IsAmountIn (members_view c.args.item.now.members)) c.from_residual-in_err-amount.result c.in_err-amount.field-0.0 c.from_residual-in_err-amount.ensures.1
    (λ refusal x decoded.
    let none = one_flag (get_member (codes "none") (members_view c.args.item.now.members)) decoded.is_none c.in_ok-is_none.is_none decoded.none c.in_ok-is_none.ensures.value in
    let never = one_flag (get_member (codes "never") (members_view c.args.item.now.members)) decoded.is_never c.in_ok-is_never.is_never decoded.never c.in_ok-is_never.ensures.value in
    let count = same_some decoded.count c.in_ok-count.ensures.number in
    let most = same_some decoded.at_most c.in_ok-at_most.ensures.number in
    none_read _ _ c.in_err-amount.ensures.refused (ap (λ b. amount_of b c.in_ok-count.count c.in_ok-at_most.at_most) (c.says_never.ensures ∙ (λ i. sym none i || sym never i))
    ∙ (λ i. amount_of (decoded.is_none || decoded.is_never) (sym count i) (sym most i)) ∙ decoded.amount_is))
