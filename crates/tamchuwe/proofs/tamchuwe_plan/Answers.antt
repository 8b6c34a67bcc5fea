-- The numbers are those of the reply that `plan_into` gives.
use mathlib.Core.Path.{◌≡◌, ap, ◌∙◌, subst}
use mathlib.Core.List.{List}
use Prim.Native.Nat.{ℕ}
use Rattle.plan_outcome.specs.declared.Reply.{Reply}
use Rattle.planner.specs.Replies.{LibraryReply}
use Rattle.host_values.specs.Values.{reply_kind, reply_values}
use Rattle.tamchuwe.proofs.Values.{valued}
use Rattle.network.proofs.Pairs.{both}
use Rattle.tamchuwe.proofs.tamchuwe_plan.Goals as goal

same_reply : {s before after : List ℕ} {a b : Reply} → a ≡ b → LibraryReply s before a after → LibraryReply s before b after
same_reply {s} {before} {after} e h = subst (λ (r : Reply). LibraryReply s before r after) e h

pub returns : goal.returns
returns c =
    let a = c.args in
    let is = c.plan_into-reply.ensures.value in
    let kept = same_reply is c.plan_into-reply.ensures.library_reply in
    record { value = c.reply_kind.ensures ∙ ap reply_kind is; buffer_after = c.plan_into-reply.ensures.buffer_after; values_after = (valued _ _ _ a.values.now _ _ (c.reply_values-found.ensures ∙ ap reply_values is) (both c.put_what_fits.ensures.value c.put_what_fits.ensures.lent_after) kept).0; count_after = (valued _ _ _ a.values.now _ _ (c.reply_values-found.ensures ∙ ap reply_values is) (both c.put_what_fits.ensures.value c.put_what_fits.ensures.lent_after) kept).1.0; library_reply = (valued _ _ _ a.values.now _ _ (c.reply_values-found.ensures ∙ ap reply_values is) (both c.put_what_fits.ensures.value c.put_what_fits.ensures.lent_after) kept).1.1 }
