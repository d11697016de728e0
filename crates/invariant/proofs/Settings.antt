-- The handles' settings stay valid: a layout is put only where its format is drawn. Assumes nothing.
use mathlib.Core.Path.{◌≡◌, refl, ap, sym, ◌∙◌}
use mathlib.Core.Bool.{true}
use Prim.Native.Nat.{ℕ, ◌%◌}
use native.Mathlib.Omega.{arith}
use lib.ListN.{length, length-set, length-replicate, get_or-replicate}
use Rattle.std.specs.Prelude.{Option, Some, None}
use Rattle.std.proofs.lemmas.Option.{none-some, same_Some}
use Rattle.engine.specs.declared.handles.Handle.{Handle}
use Rattle.engine.specs.declared.handles.Handles.{Handles}
use Rattle.engine.specs.declared.handles.Layout.{Layout}
use Rattle.engine.specs.declared.handles.LayoutHigh.{LayoutHigh}
use Rattle.engine.specs.declared.handles.Settings.{Settings}
use Rattle.engine.specs.declared.handles.Size.{Size}
use Rattle.engine.specs.Drawn.{drawn_format}
use Rattle.engine.specs.Handles.{unset, all_unset, settings_at, put, handle_of, handle_at, sourced, laid_out, sized, laid_out_high, sized_high}
use Rattle.invariant.specs.State.{ValidHandles}
use Rattle.invariant.proofs.Lists.{set_at}
use lib.ListN.{get_or}

abbrev Drawn : Settings → Type 0
Drawn s = (layout : Layout) → s.layout ≡ Some layout → drawn_format layout.format ≡ true

-- a handle that its main words have set up has its layout's format
format_had : (source : Option ℕ) (layout : Option Layout) (size : Option Size) (layout_high : LayoutHigh) (size_high : Size) →
    ((l : Layout) → layout ≡ Some l → drawn_format l.format ≡ true) →
    (h : Handle) → handle_of source layout size layout_high size_high ≡ Some h → drawn_format h.format ≡ true
format_had (Some source) (Some layout) (Some size) layout_high size_high d h e = rw (← same_Some _ h e) (d layout refl)
format_had None layout size layout_high size_high d h e = absurd (none-some h e)
format_had (Some source) None size layout_high size_high d h e = absurd (none-some h e)
format_had (Some source) (Some layout) None layout_high size_high d h e = absurd (none-some h e)

handles-valid : (hs : Handles) → length hs.0 ≡ 32 → ((i : ℕ) → Drawn (settings_at hs i)) → ValidHandles hs
unfolding handle_at
handles-valid hs places format = record {
  places = places;
  format = format;
  drawn-with = λ i h e. format_had _ (settings_at hs i).layout _ _ _ (format i) h e;
}

module _ {hs : Handles} (h : ℕ) (v : ValidHandles hs) where
  put-valid : (s : Settings) → Drawn s → ValidHandles (put hs h s)
  put-valid s d =
      handles-valid (put hs h s) (length-set hs.0 (h % 32) s ∙ v.places) (λ i. set_at Drawn hs.0 (h % 32) (i % 32) s unset (v.format i) (λ e. d))

  pub sourced-valid : (address : ℕ) → ValidHandles (sourced hs h address)
  unfolding sourced
  sourced-valid address = put-valid _ (v.format h)

  pub laid-valid : (layout : Layout) → drawn_format layout.format ≡ true → ValidHandles (laid_out hs h layout)
  unfolding laid_out
  laid-valid layout d = put-valid _ (λ l e. rw (← same_Some layout l e) d)

  pub sized-valid : (size : Size) → ValidHandles (sized hs h size)
  unfolding sized
  sized-valid size = put-valid _ (v.format h)

  pub laid-high-valid : (high : LayoutHigh) → ValidHandles (laid_out_high hs h high)
  unfolding laid_out_high
  laid-high-valid high = put-valid _ (v.format h)

  pub sized-high-valid : (high : Size) → ValidHandles (sized_high hs h high)
  unfolding sized_high
  sized-high-valid high = put-valid _ (v.format h)

  -- any other setting, the layout left as it is
  put_other : (s : Settings) → s.layout ≡ (get_or hs.0 (h % 32) unset).layout → ValidHandles (put hs h s)
  put_other s e = put-valid s (λ layout f. v.format h layout (sym e ∙ f))

-- 'Every run starts with all handles unset.'
pub unset-valid : ValidHandles all_unset
unset-valid =
    handles-valid all_unset (length-replicate {A = Settings} 32 unset)
    (λ i layout e. absurd (none-some layout (sym (ap (λ (s : Settings). s.layout) (get_or-replicate 32 (i % 32) unset unset (omega arith))) ∙ e)))
