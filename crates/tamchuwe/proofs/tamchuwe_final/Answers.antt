-- The numbers are those of what `final_of` gives.
use Rattle.final_judge.specs.Finals.{FinalDecided}
use Rattle.tamchuwe.proofs.Values.{decided_valued}
use Rattle.network.proofs.Pairs.{both}
use Rattle.tamchuwe.proofs.tamchuwe_final.Goals as goal

pub returns : goal.returns
returns c = let the-args = c.args in let whole = decided_valued (FinalDecided the-args.input.now) _ _ (both c.final_of-decided.ensures.value c.final_of-decided.ensures.final_decided) _ the-args.values.now _ _ _ c.final_kind.ensures c.final_values-found.ensures (both c.put_what_fits.ensures.value c.put_what_fits.ensures.lent_after) in record { value = whole.0; values_after = whole.1.0; count_after = whole.1.1.0; final_decided = whole.1.1.1 }
