-- `tightest_spot` scans the loads that the walks from all sound sources store.
use native.Mathlib.Omega.{arith}
use Rattle.feeding_margins.proofs.Whole.{sound_long, lent_all, carries_all, stored_fit, spot_is, spot_told}
use Rattle.feeding_margins.proofs.tightest_spot.Goals as goal

pub loads_from-loads-requires : goal.loads_from-loads-requires
loads_from-loads-requires c =
    let a = c.args in
    let r = c.requires in
    record {
      lent = lent_all a.net r.well_formed a.own r.own_value a.closed.now r.closed_len;
      elements_bound = (omega (arith, r.well_formed.elements_fit), sound_long a.net r.well_formed a.sound.now r.sound_value);
      carries = carries_all a.net r.well_formed a.own r.own_value a.closed.now r.closed_len
          r.safe a.sound.now r.sound_value;
    }

pub least_margin-requires : goal.least_margin-requires
least_margin-requires c =
    let a = c.args in
    let r = c.requires in
    stored_fit a.net r.well_formed a.own r.own_value a.closed.now r.closed_len
    r.safe a.sound.now r.sound_value c.loads_from-loads.result c.loads_from-loads.ensures

pub returns : goal.returns
returns c =
    let a = c.args in
    let r = c.requires in
    record {
      spotted = spot_told a.net r.well_formed a.own r.own_value a.closed.now r.closed_len
          r.safe a.sound.now r.sound_value
          c.loads_from-loads.result c.least_margin.result c.loads_from-loads.ensures c.least_margin.ensures;
      value = spot_is a.net r.well_formed a.own r.own_value a.closed.now r.closed_len
          r.safe a.sound.now r.sound_value
          c.loads_from-loads.result c.least_margin.result c.loads_from-loads.ensures c.least_margin.ensures;
    }
