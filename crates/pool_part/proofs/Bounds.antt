-- Where the parts of store s lie: with eight stores every start and end of a part, in places and in bytes, is a number of the machine, and the part lies
-- within its pool.
use Prim.Native.Nat.{ℕ, ◌+◌, ◌*◌, ◌≤◌, ◌<◌}
use native.Mathlib.Omega.{arith}
use mir.Val.{Fits}
use mir.Syntax.{w64}

module _ {s : ℕ} (h : s < 8) where
  -- ---- 128 places of the ranges

  pub rec_fits : Fits w64 (128 * s)
  rec_fits = omega arith

  pub rec_end-fits : Fits w64 (128 * s + 128)
  rec_end-fits = omega arith

  pub rec_fits8 : Fits w64 (128 * s * 8)
  rec_fits8 = omega arith

  pub rec_fits4 : Fits w64 (128 * s * 4)
  rec_fits4 = omega arith

  pub rec_ends : {m : ℕ} → 1024 ≤ m → 128 * s + 128 ≤ m
  rec_ends l = omega arith

  -- ---- 256 places of the marks

  pub mark_fits : Fits w64 (256 * s)
  mark_fits = omega arith

  pub mark_end-fits : Fits w64 (256 * s + 256)
  mark_end-fits = omega arith

  pub mark_fits8 : Fits w64 (256 * s * 8)
  mark_fits8 = omega arith

  pub mark_ends : {m : ℕ} → 2048 ≤ m → 256 * s + 256 ≤ m
  mark_ends l = omega arith

  -- ---- 32 places of the pins

  pub pin-fits : Fits w64 (32 * s)
  pin-fits = omega arith

  pub pin-end-fits : Fits w64 (32 * s + 32)
  pin-end-fits = omega arith

  pub pin_fits8 : Fits w64 (32 * s * 8)
  pin_fits8 = omega arith

  pub pin-ends : {m : ℕ} → 256 ≤ m → 32 * s + 32 ≤ m
  pin-ends l = omega arith
